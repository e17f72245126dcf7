-- The answers of bytes, by how they begin.
use Rattle.std.proofs.Common.{◌≡◌, ℕ, List, ◌∷◌, Some, sym, refl, ap, subst}
use Rattle.stream.specs.declared.poll.Poll.TheVariants.{Ready}
use Rattle.stream.specs.Answers.{Answer}
use Rattle.script.specs.Commands.{commands, Command, wait, none, item, Right, StandsFor, empty, next}

-- a command's answer is the first
pub answered : {s t : List ℕ} {a : Answer ℕ} → Command s a t → commands s ≡ a ∷ commands t
answered wait = refl
answered none = refl
answered {t = t} (item e) = ap (λ w. Ready (Some w) ∷ commands t) (sym e)

stands : {s : List ℕ} {l : List (Answer ℕ)} → StandsFor s l → StandsFor s (commands s)
stands empty = empty
stands {s = s} (next c w) = subst (StandsFor s) (sym (answered c)) (next c (stands w))

-- a right script stands for its answers
pub says : {s : List ℕ} → Right s → StandsFor s (commands s)
says w = stands w.1

-- what follows a command of a right script is right
pub left_right : {s t : List ℕ} {a : Answer ℕ} → Command s a t → StandsFor s (commands s) → StandsFor t (commands t)
left_right wait (next wait w) = w
left_right none (next none w) = w
left_right (item e) (next (item f) w) = w
