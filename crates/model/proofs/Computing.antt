-- A theorem that is to compute says `unfolding figuring` or `unfolding machine`: to unfold a definition is to unfold what its own line names.
use Rattle.model.specs.Ranges.{any_below, listed, joined}
use Rattle.model.specs.Words.{bit, num, field_at, splice, put_field}
use Rattle.model.specs.Bitmaps.{grid_bit, place_bit, place_shift, inside, pixels, pane_surface, store_surface, surface_of, pane_bitmap_bad, store_bitmap_bad}
use Rattle.model.specs.Bitmaps.{rule_broken, touches}
use Rattle.model.specs.Scissor.{scissor_of, scissor_stale}
use Rattle.model.specs.Pixels.{blend, change, changes}
use Rattle.model.specs.Dots.{visible, hits, changes_of}
use Rattle.model.specs.Lines.{segment_dots, line, point_at, pairs_at, segments, polyline, triples_at, scan_lines}
use Rattle.model.specs.Lines.{along_x, along_y, walk, visited, once, patterned, rectangle}
use Rattle.model.specs.Circles.{reflections, reflections_on, circle_points, circle}
use Rattle.model.specs.Copies.{seen, copy_dots, copy, block_bad, block_touches, sharing}
use Rattle.model.specs.Glyphs.{selector, descriptor, cell_bit, rotated, glyph_dots, advance, on_path, passed, string}
use Rattle.model.specs.Commands.{opcode_of, command_of, fetch, decode}
use Rattle.model.specs.Faults.{clip_outside, array_bad, string_bad, descriptors_bad, fault_of}
use Rattle.model.specs.Effects.{effect_of}
use Rattle.model.specs.Steps.{made_by, paint_of, plan_of, attempted, obey, step}
use Rattle.model.specs.Runs.{stepped, follow, runs}
use Rattle.model.specs.Judge.{barred_fault, judged_fault, record_after, judged_command, met, met_last, list_walk, verdict_of}
use Rattle.model.specs.Setup.{geometry_bad, rectangle_bad, store_bad, share_pixel, share_byte, checks, progress_bad, trap_bad, pane_bad}
use Rattle.model.specs.Calls.{part, in_part, own_refusal, on_pane, row_of, record_of, store_of, setup_refusal, call_checks, refusal, with_pane, accepted, exec}
use Rattle.model.specs.Calls.{released, switched, set_up}

-- drawing
unfoldable pub figuring : Unit {0}
unfolding any_below listed joined bit num field_at splice put_field grid_bit place_bit place_shift inside pixels pane_surface store_surface surface_of
    pane_bitmap_bad store_bitmap_bad rule_broken touches blend change changes visible hits changes_of segment_dots line point_at pairs_at segments polyline
    along_x along_y walk visited once patterned rectangle triples_at scan_lines reflections reflections_on circle_points circle seen copy_dots copy block_bad
    block_touches sharing selector descriptor cell_bit rotated glyph_dots advance on_path passed string
figuring = tt

-- and everything else
unfoldable pub machine : Unit {0}
unfolding figuring opcode_of command_of fetch decode clip_outside array_bad string_bad descriptors_bad fault_of scissor_of scissor_stale effect_of made_by
    paint_of plan_of attempted obey step stepped follow runs barred_fault judged_fault record_after judged_command met met_last list_walk verdict_of
    geometry_bad rectangle_bad store_bad share_pixel share_byte checks progress_bad trap_bad pane_bad part in_part own_refusal released switched on_pane row_of
    record_of store_of setup_refusal call_checks refusal with_pane accepted exec set_up
machine = tt
