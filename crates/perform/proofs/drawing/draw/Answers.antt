-- `perform::drawing::draw` meets its contract, by the command. First what each arm's routine asks, and then that it carries out what the
-- command draws on the pane's target.
use mathlib.Core.Path.{refl, ap, ◌∙◌}
use native.Mathlib.Omega.{arith}
use borrow.Enum.Refused.{opened}
use types.Run.{hit}
use Rattle.bitmaps.specs.Areas.{area_of}
use Rattle.perform.proofs.KindLaws.{drawing_tags}
use Rattle.perform.proofs.DrawingLaws.{drawing_ready, polyline_reach, scan_lines_reach, bit_blt_inside}
use Rattle.perform.proofs.DrawingLaws.{bit_blt_m_copyable, char_writable, point_carries, line_carries, rect_carries, circle_carries}
use Rattle.perform.proofs.DrawingLaws.{polyline_carries, scan_lines_carries, bit_blt_carries, bit_blt_m_carries}
use Rattle.perform.proofs.DrawingLaws.{char_carries, carries_not}
use Rattle.perform.proofs.drawing.draw.Goals as goal

pub point-requires : goal.point-requires
point-requires c = drawing_ready c.requires c.target_of-t.ensures c.in-Point.is (hit drawing_tags 16 tt)

pub line-requires : goal.line-requires
line-requires c = drawing_ready c.requires c.target_of-t.ensures c.in-Line.is (hit drawing_tags 17 tt)

pub rect-requires : goal.rect-requires
rect-requires c = drawing_ready c.requires c.target_of-t.ensures c.in-Rect.is (hit drawing_tags 18 tt)

pub circle-requires : goal.circle-requires
circle-requires c = drawing_ready c.requires c.target_of-t.ensures c.in-Circle.is (hit drawing_tags 21 tt)

pub polyline-requires : goal.polyline-requires
polyline-requires c = (
  drawing_ready c.requires c.target_of-t.ensures c.in-Polyline.is (hit drawing_tags 20 tt),
  omega arith,
  polyline_reach c.requires c.target_of-t.ensures c.in-Polyline.is,
)

pub scan_lines-requires : goal.scan_lines-requires
scan_lines-requires c = (
  drawing_ready c.requires c.target_of-t.ensures c.in-ScanLines.is (hit drawing_tags 24 tt),
  omega arith,
  scan_lines_reach c.requires c.target_of-t.ensures c.in-ScanLines.is,
)

pub bit_blt-requires : goal.bit_blt-requires
bit_blt-requires c = (
  drawing_ready c.requires c.target_of-t.ensures c.in-BitBlt.is (hit drawing_tags 19 tt),
  bit_blt_inside c.requires c.target_of-t.ensures c.in-BitBlt.is,
)

pub bit_blt_m-requires : goal.bit_blt_m-requires
bit_blt_m-requires c = (
  drawing_ready c.requires c.target_of-t.ensures c.in-BitBltM.is (hit drawing_tags 23 tt),
  bit_blt_m_copyable c.requires c.target_of-t.ensures c.in-BitBltM.is
      (c.area_of-source.ensures ∙ ap (area_of c.args.f.geometry c.args.f.row) c.source_of.ensures.0),
)

pub draw_string-requires : goal.draw_string-requires
draw_string-requires c = char_writable c.requires c.target_of-t.ensures c.in-Char.is

pub returns-in-Point : goal.returns-in-Point
returns-in-Point c = point_carries _ _ _ _ _ _ _ _ c.target_of-t.ensures c.in-Point.is c.point.ensures

pub returns-in-Line : goal.returns-in-Line
returns-in-Line c = line_carries _ _ _ _ _ _ _ _ c.target_of-t.ensures c.in-Line.is c.line.ensures

pub returns-in-Rect : goal.returns-in-Rect
returns-in-Rect c = rect_carries _ _ _ _ _ _ _ _ c.target_of-t.ensures c.in-Rect.is c.rect.ensures

pub returns-in-Circle : goal.returns-in-Circle
returns-in-Circle c = circle_carries _ _ _ _ _ _ _ _ c.target_of-t.ensures c.in-Circle.is c.circle.ensures

pub returns-in-Polyline : goal.returns-in-Polyline
returns-in-Polyline c = polyline_carries _ _ _ _ _ _ _ _ c.target_of-t.ensures c.in-Polyline.is (omega arith) c.polyline.ensures

pub returns-in-ScanLines : goal.returns-in-ScanLines
returns-in-ScanLines c = scan_lines_carries _ _ _ _ _ _ _ _ c.target_of-t.ensures c.in-ScanLines.is (omega arith) c.scan_lines.ensures

pub returns-in-BitBlt : goal.returns-in-BitBlt
returns-in-BitBlt c = bit_blt_carries _ _ _ _ _ _ _ _ c.target_of-t.ensures c.in-BitBlt.is c.requires c.bit_blt.ensures

pub returns-in-BitBltM : goal.returns-in-BitBltM
returns-in-BitBltM c = bit_blt_m_carries _ _ _ _ _ _ _ _ c.target_of-t.ensures c.in-BitBltM.is
    (c.area_of-source.ensures ∙ ap (area_of c.args.f.geometry c.args.f.row) c.source_of.ensures.0) c.bit_blt_m.ensures

pub returns-in-Char : goal.returns-in-Char
returns-in-Char c = char_carries _ _ _ _ _ _ _ _ c.target_of-t.ensures c.in-Char.is (omega arith) c.draw_string.ensures

-- a command that draws nothing
pub returns-in_default : goal.returns-in_default
returns-in_default c = carries_not _ _ _ _ _ _ _ _ _ (opened c.in_default.in_default-own.keys10) refl
