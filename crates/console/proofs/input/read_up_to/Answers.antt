use Rattle.std.proofs.Common.{rules, ◌≡◌, ℕ, ◌+◌, ◌-◌, ◌≤◌, List, ◌++◌, length, take, sym, ap, ◌∙◌, drop, subst, le_refl, drop_at, length-take-le}
use Rattle.std.proofs.lemmas.Slice.{take-put_mid_below}
use Rattle.std.specs.Io.KnownBytes.{Consumes}
use Rattle.std.proofs.KnownBytes.{Consumes-trans}
use borrow.Rule.Slice.PartMut.{put_mid, post_of}
use lib.Seq.{take-add, take-append-le}
use Rattle.console.proofs.input.read_up_to.Goals as goal

-- What was read before, and then the front of what a read wrote behind it, is the front of the whole buffer.
take-filled : (a k n : ℕ) (xs ys : List ℕ) → a ≤ length xs → n ≤ length ys → take a xs ++ take n ys ≡ take (a + n) (put_mid a k xs ys)
take-filled a k n xs ys within fits =
    let whole = put_mid a k xs ys in
    let front : take a whole ≡ take a xs = take-put_mid_below _ _ _ _ _ (le_refl _) within in
    let behind = ap (take n) (drop_at (take a xs) (ys ++ post_of a k xs) a (length-take-le a xs within)) ∙ take-append-le n ys (post_of a k xs) fits in
    sym (take-add a n whole ∙ ap (λ l. l ++ take n (drop a whole)) front ∙ ap (λ l. take a xs ++ l) behind)

pub loop-len-preserved : goal.loop-len-preserved
loop-len-preserved g c =
    let (_, within, consumed) = c.loop-len.invariant in
    let joined = take-filled c.loop-len.len (length c.loop-len.buffer - c.loop-len.len) c.in_ok-count.count c.loop-len.buffer c.read.new.buf within c.in_ok-count.ensures.bound.0 in
    (search rules, search rules, subst (Consumes _ _) joined (Consumes-trans _ _ _ _ _ consumed c.in_ok-count.ensures.bytes.0))
