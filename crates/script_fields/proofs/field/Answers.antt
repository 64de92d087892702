-- The line is cut at each comma, and a part that it has not got is empty.
use Rattle.std.proofs.Common.{◌≡◌, ℕ, List, [], Option, None, Some, Bor, ap, ◌∙◌, rules, tests, get_or, unwrap_or, option_map, refl}
use Rattle.std.specs.List.{slice_get}
use Rattle.std.proofs.lemmas.Option.{unwrap_or-slice_get}
use Rattle.std.proofs.lemmas.Iterator.Consumers.{nth_from_yields_List}
use Rattle.std.proofs.lemmas.Iterator.Splits.{YieldsList-from_slice_split}
use Rattle.std.specs.Prelude.{◌==◌}
use Rattle.script_fields.specs.Fields.{comma, fields_of}
use Rattle.script_fields.proofs.ReadingLaws.{part_length}
use Rattle.script_fields.proofs.field.Goals as goal

or_empty :
    (part : Option (Bor (List ℕ))) (empty : Bor (List ℕ)) (parts : List (List ℕ)) (k : ℕ) →
    option_map (λ x. x.now) part ≡ slice_get parts k →
    empty.now ≡ [] →
    (unwrap_or part empty).now ≡ get_or parts k []
or_empty None empty parts k found none = none ∙ ap (λ p. unwrap_or p []) found ∙ unwrap_or-slice_get parts k []
or_empty (Some x) empty parts k found none = ap (λ p. unwrap_or p []) found ∙ unwrap_or-slice_get parts k []

pub returns : goal.returns
returns c =
    let a = c.args in
    let found =
    nth_from_yields_List _ _ _ c.nth.ensures.ran
    (YieldsList-from_slice_split _ (λ b. b == comma) a.line.now c.split.ensures.rest c.split.ensures.done c.split.ensures.closure
    (λ x b q k. search (rules, tests))) in
    let value = ap (λ x. x.now) c.unwrap_or.ensures ∙ or_empty _ _ (fields_of a.line.now) a.k found refl in
    record {
      within = rw value (part_length (λ b. b == comma) a.line.now a.k);
      value = value;
    }
