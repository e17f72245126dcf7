-- That the readings of two scripts are few: no list of answers is longer than the bytes that it comes from.
use Rattle.std.proofs.Common.{◌≡◌, ℕ, suc, ◌+◌, ◌^◌, ◌<◌, ◌≤◌, List, [], ◌∷◌, length, Some, None, refl, ap, ◌∙◌, arith}
use Rattle.std.proofs.lemmas.Bool.Decides.{nat_tests}
use Rattle.stream.specs.declared.poll.Poll.TheVariants.{Ready, Pending}
use Rattle.stream.specs.Answers.{Answer}
use Rattle.stream.specs.Itemwise.{itemwise, item as item_made}
use Rattle.combine.specs.EnumerateRule.{enumerated}
use Rattle.combine.specs.ZipRule.{kept, zipped}
use Rattle.script.specs.Checks.{refusal}
use Rattle.script.specs.Commands.{StandsFor, commands}
use Rattle.script.specs.Commands.Command.{wait, none, item}
use Rattle.script.specs.Commands.StandsFor.{empty, next}
use Rattle.script.specs.declared.script.Script.{Script}
use Rattle.gateway.specs.Reports.{readings}

length_items : {F A B : Type 0} (out : F → A → B) (on : F → A → F) (f : F) (xs : List (Answer A)) → length (itemwise (λ f x. item_made (out f x)) on f xs) ≡ length xs
length_items out on f [] = refl
length_items out on f (Pending ∷ xs) = ap suc (length_items out on f xs)
length_items out on f (Ready None ∷ xs) = ap suc (length_items out on f xs)
length_items out on f (Ready (Some x) ∷ xs) = ap suc (length_items out on (on f x) xs)

length_kept : {A B : Type 0} (x : A) (k : List (Answer B) → List (Answer (A × B))) (n : ℕ) → ((ys : List (Answer B)) → length (k ys) ≤ n + length ys) → (ys : List (Answer B)) → length (kept x k ys) ≤ suc n + length ys
length_kept x k n h [] = omega (arith, h [])
length_kept x k n h (Pending ∷ ys) = omega (arith, length_kept x k n h ys)
length_kept x k n h (Ready None ∷ ys) = omega (arith, h ys)
length_kept x k n h (Ready (Some y) ∷ ys) = omega (arith, h ys)

length_zipped : {A B : Type 0} (xs : List (Answer A)) (ys : List (Answer B)) → length (zipped xs ys) ≤ length xs + length ys
length_zipped [] ys = omega arith
length_zipped (Pending ∷ xs) ys = omega (arith, length_zipped xs ys)
length_zipped (Ready None ∷ xs) ys = omega (arith, length_zipped xs ys)
length_zipped (Ready (Some x) ∷ xs) ys = length_kept x (zipped xs) (length xs) (length_zipped xs) ys

length_right : {s : List ℕ} {l : List (Answer ℕ)} → StandsFor s l → length l ≤ length s
length_right empty = omega arith
length_right (next wait h) = omega (arith, length_right h)
length_right (next none h) = omega (arith, length_right h)
length_right (next (item e) h) = omega (arith, length_right h)

-- A script that is not refused is not too long.
not_long : (n : ℕ) (s : List ℕ) → refusal n s ≡ None → length s ≤ 4096
not_long n s e = grind (arith, nat_tests)

-- So two scripts that are not refused have few readings.
pub few_readings : (high low : Script) → refusal 1 high.left.now ≡ None → refusal 2 low.left.now ≡ None → length (readings high.left.now low.left.now) < 2 ^ 63
few_readings high low a b =
    let first = commands high.left.now in
    let second = commands low.left.now in
    let same : length (readings high.left.now low.left.now) ≡ length (zipped first second) = length_items _ _ _ (enumerated 0 (zipped first second)) ∙ length_items _ _ _ (zipped first second) in
    omega (arith, same, length_zipped first second, length_right high.right, length_right low.right, not_long 1 high.left.now a, not_long 2 low.left.now b)
