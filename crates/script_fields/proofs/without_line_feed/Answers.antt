-- Where nothing is taken off, the line stays.
use Rattle.std.proofs.Common.{◌≡◌, ◌≢◌, List, [], ◌∷◌, ◌++◌, Option, None, Some, MatchOption, unwrap_or, Bor, ℕ, refl, ap, ◌∙◌}
use Rattle.std.proofs.lemmas.Bool.Decides.{Decides-eqb}
use Rattle.std.proofs.lemmas.Slice.Eq.{strip_suffix_is}
use Rattle.script_fields.specs.Fields.{line_feed}
use Rattle.script_fields.proofs.without_line_feed.Goals as goal

kept :
    (text : Option (Bor (List ℕ))) (line : Bor (List ℕ)) →
    MatchOption text ((front : List ℕ) → line.now ≢ front ++ line_feed ∷ []) (λ x. line.now ≡ x.now ++ line_feed ∷ []) →
    ((front : List ℕ) → line.now ≢ front ++ line_feed ∷ []) →
    (unwrap_or text line).now ≡ line.now
kept None line cut none = refl
kept (Some x) line cut none = absurd (none x.now cut)

pub returns-clause-unended : goal.returns-clause-unended
returns-clause-unended c none =
    ap (λ x. x.now) c.unwrap_or.ensures ∙ kept _ c.args.line (strip_suffix_is Decides-eqb c.args.line.now (line_feed ∷ []) _ c.strip_suffix.ensures.cases) none
