-- One poll of Zip: first an item is kept, and then the second stream is polled.
use Rattle.std.proofs.Common.{◌≡◌, ℕ, true, false, List, [], ◌∷◌, is_some, Some, None, Option, sym, refl, ap, ◌∙◌, subst, ap₂}
use Rattle.stream.specs.declared.poll.Poll.TheVariants.{Ready, Pending}
use Rattle.stream.specs.declared.stream.Stream.{Ghosts as Streams}
use Rattle.stream.specs.Answers.{Answer, NoItem, first, rest, waits_in}
use Rattle.stream.specs.Pipelines.{Polled}
use Rattle.stream.proofs.Cases.{answered_as, at_item, never, none_of}
use Rattle.stream.proofs.Passing.{at_no_item, passed, passed_waits}
use Rattle.combine.specs.declared.zip.Zip.{Zip}
use Rattle.combine.specs.ZipRule.{kept, kept_after, zipped, zipped_from}
use Rattle.combine.specs.ZipPipeline.{ZipTook, zip_answers, zip_pipeline}
use Rattle.combine.specs.ZipPipeline.ZipTook.{first_only, both_polled, second_only}

-- where the first stream answers an item x, it is kept
first_kept : {A B : Type 0} (x : A) (xs : List (Answer A)) (ys : List (Answer B)) → Ready (Some x) ≡ first xs → zipped xs ys ≡ kept x (zipped (rest xs)) ys
first_kept x xs ys e = at_item (λ l. zipped l ys ≡ kept x (zipped (rest l)) ys) x xs e (λ l z q. ap (λ v. kept v (zipped l) ys) (sym q))

-- what a Zip that keeps x answers where its second stream answers r
abbrev pub paired : {A B : Type 0} → A → Answer B → Answer (A × B)
paired x Pending = Pending
paired x (Ready None) = Ready None
paired x (Ready (Some y)) = Ready (Some (x, y))

paired_waits : {A B : Type 0} (x : A) (r : Answer B) → waits_in (paired x r) ≡ waits_in r
paired_waits x Pending = refl
paired_waits x (Ready None) = refl
paired_waits x (Ready (Some y)) = refl

kept_first : {A B : Type 0} (x : A) (k : List (Answer B) → List (Answer (A × B))) (ys : List (Answer B)) → paired x (first ys) ≡ first (kept x k ys)
kept_first x k [] = refl
kept_first x k (Pending ∷ ys) = refl
kept_first x k (Ready None ∷ ys) = refl
kept_first x k (Ready (Some y) ∷ ys) = refl

kept_rest : {A B : Type 0} (x : A) (xs : List (Answer A)) (ys : List (Answer B)) → zipped_from (kept_after x (first ys)) xs (rest ys) ≡ rest (kept x (zipped xs) ys)
kept_rest x xs [] = refl
kept_rest x xs (Pending ∷ ys) = refl
kept_rest x xs (Ready None ∷ ys) = refl
kept_rest x xs (Ready (Some y) ∷ ys) = refl

module _ {S T A B : Type 0} (one : Streams S A) (two : Streams T B) where
  -- where only the first stream was polled
  pub first_polled : (z : Zip S T A) (s : S) (r : Answer A) (n : NoItem r) → is_some z.item_slot ≡ false → Polled one.answers one.pipeline z.first r s → Polled (zip_answers one two) (zip_pipeline one two) z (passed r n) (record { item_slot = z.item_slot; first = s; second = z.second })
  first_polled z s r n empty p =
      let e = none_of z.item_slot empty in
      let xs = one.answers z.first in
      let ys = two.answers z.second in
      let h = at_no_item (λ l. zipped l ys) (refl, refl) (λ l. (refl, refl)) (λ l. (refl, refl)) r n xs p.answer in
      let before : zip_answers one two z ≡ zipped xs ys = ap (λ o. zipped_from o xs ys) e in
      record {
        answer = h.0 ∙ sym (ap first before);
        after = ap₂ (λ o l. zipped_from o l ys) e p.after ∙ h.1 ∙ sym (ap rest before);
        took = first_only r e p n refl e (passed_waits (A × B) r n);
      }

  -- where the second stream is about to be polled: of z it became n, which keeps an item
  pub record Primed (z n : Zip S T A) : Type 0 where
    pub item : A
    pub slot : n.item_slot ≡ Some item
    pub answers : zip_answers one two z ≡ kept item (zipped (one.answers n.first)) (two.answers n.second)
    pub took : (w : ℕ) (r : Answer B) (z' : Zip S T A) → z'.first ≡ n.first → Polled two.answers two.pipeline n.second r z'.second → z'.item_slot ≡ kept_after item r → w ≡ waits_in r → ZipTook one two z w z'

  pub brought : (z n : Zip S T A) → is_some z.item_slot ≡ false → Polled one.answers one.pipeline z.first (Ready n.item_slot) n.first → n.second ≡ z.second → (n.item_slot ≡ None → ⊥) → Primed z n
  brought z n empty p s some = go n.item_slot refl p some
    where
      go : (o : Option A) → n.item_slot ≡ o → Polled one.answers one.pipeline z.first (Ready o) n.first → (o ≡ None → ⊥) → Primed z n
      go None e' p some = absurd (some refl)
      go (Some x) e' p some = let e = none_of z.item_slot empty in record {
        item = x;
        slot = e';
        answers = ap (λ o. zipped_from o (one.answers z.first) (two.answers z.second)) e ∙ first_kept x (one.answers z.first) (two.answers z.second) p.answer ∙ ap₂ (λ xs t. kept x (zipped xs) (two.answers t)) (sym p.after) (sym s);
        took = λ w r z' f q o v. both_polled x r e (subst (Polled one.answers one.pipeline z.first (Ready (Some x))) (sym f) p) (subst (λ t. Polled two.answers two.pipeline t r z'.second) s q) o v;
      }

  pub kept_already : (z : Zip S T A) → is_some z.item_slot ≡ true → Primed z z
  kept_already z e = go z.item_slot refl e
    where
      go : (o : Option A) → z.item_slot ≡ o → is_some o ≡ true → Primed z z
      go None q e = never (cc)
      go (Some x) q e = record {
        item = x;
        slot = q;
        answers = ap (λ o. zipped_from o (one.answers z.first) (two.answers z.second)) q;
        took = λ w r z' f p o v. second_only x r q f p o v;
      }

  -- where the second stream was polled
  pub second_polled : (z n : Zip S T A) (p : Primed z n) (o : Option A) (t : T) (r : Answer B) → o ≡ kept_after p.item r → Polled two.answers two.pipeline n.second r t → Polled (zip_answers one two) (zip_pipeline one two) z (paired p.item r) (record { item_slot = o; first = n.first; second = t })
  second_polled z n p o t r e q =
      let x = p.item in
      let xs = one.answers n.first in
      let ys = two.answers n.second in
      record {
        answer = ap (paired x) q.answer ∙ kept_first x (zipped xs) ys ∙ sym (ap first p.answers);
        after = ap₂ (λ o l. zipped_from o xs l) (e ∙ ap (kept_after x) q.answer) q.after ∙ kept_rest x xs ys ∙ sym (ap rest p.answers);
        took = p.took (waits_in (paired x r)) r (record { item_slot = o; first = n.first; second = t }) refl q e (paired_waits x r);
      }

  -- where it answered a, and r is what a makes with the item that was kept
  pub pair_made : (z n : Zip S T A) (p : Primed z n) (o : Option A) (t : T) (a : Answer B) (r : Option (A × B)) → (a ≡ Pending → ⊥) → (a ≡ Ready None → r ≡ None) → ((y : B) → a ≡ Ready (Some y) → r ≡ Some (p.item, y)) → o ≡ None → Polled two.answers two.pipeline n.second a t → Polled (zip_answers one two) (zip_pipeline one two) z (Ready r) (record { item_slot = o; first = n.first; second = t })
  pair_made z n p o t Pending r b f h e q = absurd (b refl)
  pair_made z n p o t (Ready None) r b f h e q = answered_as (Ready r) (ap (λ v. Ready v) (sym (f refl))) (second_polled z n p o t (Ready None) e q)
  pair_made z n p o t (Ready (Some y)) r b f h e q = answered_as (Ready r) (ap (λ v. Ready v) (sym (h y refl))) (second_polled z n p o t (Ready (Some y)) e q)
