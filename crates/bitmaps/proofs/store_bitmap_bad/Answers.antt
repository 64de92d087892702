-- The tests on a store bitmap are the definition's, the bytes of its rows as `bitmap_bytes` answers them.
use Rattle.model.specs.Bitmaps.{store_bitmap_bad}
use Rattle.bitmaps.proofs.store_bitmap_bad.Goals as goal

pub returns : goal.returns
unfolding store_bitmap_bad
returns c = rw (c.passes_end.ensures, c.is_depth.ensures, c.bitmap_bytes-size.ensures.0)
