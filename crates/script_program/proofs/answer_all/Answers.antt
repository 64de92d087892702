-- What is read tells what the whole script prints: it is all of it, or already longer than a script may be.
use Rattle.std.proofs.Common.{rules, arith, ◌≡◌, ℕ, ◌<◌, List, [], ◌++◌, None, Some, Option, Result, Ok, Err, length, IfSome, OnOk}
use Rattle.std.proofs.Common.{inl, inr, sym, ap, ◌∙◌, subst, append-nil, length-append}
use Rattle.std.proofs.lemmas.Bool.{cases_lt, lt-ltb}
use Rattle.std.specs.Io.KnownBytes.{Appends, Consumes, IsAtEnd}
use Rattle.script_lines.specs.declared.Language.{Language}
use Rattle.script.specs.Scripts.{answered}
use Rattle.script_program.proofs.answer_all.Goals as goal

both_long : (language : Language) (xs ys : List ℕ) → 8192 < length xs → 8192 < length ys → answered language xs ≡ answered language ys
unfolding answered
both_long language xs ys p q = rw (lt-ltb _ _ p, lt-ltb _ _ q)

front_tells : (language : Language) (xs ys : List ℕ) → (length xs < 8193 → ys ≡ []) → answered language (xs ++ ys) ≡ answered language xs
front_tells language xs ys end =
    elim (cases_lt (length xs) 8193) [
      | inl p ↦ ap (λ l. answered language (xs ++ l)) (end p) ∙ ap (answered language) (append-nil xs)
      | inr p ↦ both_long language (xs ++ ys) xs (omega (arith, length-append xs ys)) (omega arith)
    ]

read_tells : (language : Language) (old new : Option (List ℕ)) (xs : List ℕ) → Consumes old new xs → (length xs < 8193 → IsAtEnd new)
    → IfSome old (λ script. answered language xs ≡ answered language script)
read_tells language None new xs read end = tt
read_tells language (Some s) None xs read end = absurd read
read_tells language (Some s) (Some rest) xs read end = sym (ap (answered language) read ∙ front_tells language xs rest end)

replies_to : {E : Type 0} (known old new : Option (List ℕ)) (language : Language) (r : Result (Unit {0}) E) (xs said : List ℕ) → said ≡ answered language xs
    → IfSome known (λ script. answered language xs ≡ answered language script) → OnOk r (Appends old new said)
    → OnOk r (IfSome known (λ script. Appends old new (answered language script)))
replies_to None old new language (Ok x) xs said text told wrote = tt
replies_to (Some s) old new language (Ok x) xs said text told wrote = subst (Appends old new) (text ∙ told) wrote
replies_to known old new language (Err e) xs said text told wrote = tt

pub returns : goal.returns
returns g c =
    let read = c.in_ok-read.ensures in
    let room : 8193 ≡ length c.read_full.new.buffer = search rules in
    let told = read_tells c.args.language _ _ _ read.bytes (λ p. read.end (omega (arith, p, read.bound.1, room))) in
    replies_to _ _ _ c.args.language _ _ _ (c.answer-written.ensures.whole (search rules)) told c.write_all.ensures.bytes
