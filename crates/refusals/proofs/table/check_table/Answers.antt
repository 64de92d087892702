-- What `screen_bytes` asks: the sizes are those that 6 lets pass.
use Rattle.bitmaps.proofs.DepthLaws.{is_depth_known}
use Rattle.refusals.proofs.table.check_table.Goals as goal

pub screen_bytes-requires : goal.screen_bytes-requires
screen_bytes-requires c =
    let s = c.requires in
    (s.width, s.height, (is_depth_known _ s.depth).most)
