-- Lemmas that fill ghost members: agreement goes across a list in between.
use Rattle.std.specs.Prelude.{List, [], ◌∷◌, Some, None, Option}
use Rattle.stream.specs.Answers.{Answer, Agree, Matching, Pairwise, settled}

module _ {A B C : Type 0} (P : A → B → Type 0) (T : B → C → Type 0) (Q : A → C → Type 0) (across : (a : A) (b : B) (c : C) → P a b → T b c → Q a c) where
  matching_across : (x : Option A) (y : Option B) (z : Option C) → Matching P x y → Matching T y z → Matching Q x z
  matching_across None None None h k = tt
  matching_across None None (Some c) h k = absurd k
  matching_across None (Some b) z h k = absurd h
  matching_across (Some a) None z h k = absurd h
  matching_across (Some a) (Some b) None h k = absurd k
  matching_across (Some a) (Some b) (Some c) h k = across a b c h k

  pairwise_across : (xs : List (Option A)) (ys : List (Option B)) (zs : List (Option C)) → Pairwise P xs ys → Pairwise T ys zs → Pairwise Q xs zs
  pairwise_across [] [] [] h k = tt
  pairwise_across [] [] (z ∷ zs) h k = (matching_across None None z tt k.0, pairwise_across [] [] zs tt k.1)
  pairwise_across [] (y ∷ ys) [] h k = tt
  pairwise_across [] (y ∷ ys) (z ∷ zs) h k = (matching_across None y z h.0 k.0, pairwise_across [] ys zs h.1 k.1)
  pairwise_across (x ∷ xs) [] [] h k = (matching_across x None None h.0 tt, pairwise_across xs [] [] h.1 tt)
  pairwise_across (x ∷ xs) [] (z ∷ zs) h k = (matching_across x None z h.0 k.0, pairwise_across xs [] zs h.1 k.1)
  pairwise_across (x ∷ xs) (y ∷ ys) [] h k = (matching_across x y None h.0 k.0, pairwise_across xs ys [] h.1 k.1)
  pairwise_across (x ∷ xs) (y ∷ ys) (z ∷ zs) h k = (matching_across x y z h.0 k.0, pairwise_across xs ys zs h.1 k.1)

  pub agree_across : (xs : List (Answer A)) (ys : List (Answer B)) (zs : List (Answer C)) → Agree P xs ys → Agree T ys zs → Agree Q xs zs
  agree_across xs ys zs h k = pairwise_across (settled xs) (settled ys) (settled zs) h k
