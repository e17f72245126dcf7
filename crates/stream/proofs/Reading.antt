-- One poll of an adapter that goes item by item: it reads on past the items that are dropped.
use Rattle.std.proofs.Common.{◌≡◌, ℕ, ◌+◌, List, Some, None, refl, subst, zero-add, arith}
use Rattle.stream.specs.declared.poll.Poll.TheVariants.{Ready, Pending}
use Rattle.stream.specs.declared.stream.Stream.{Ghosts as Streams}
use Rattle.stream.specs.Answers.{Answer, Agree, waits_in}
use Rattle.stream.specs.Itemwise.{Made, itemwise, read_past}
use Rattle.stream.specs.Itemwise.Made.{item, dropped}
use Rattle.stream.specs.Pipelines.{Polled}
use Rattle.stream.specs.Runs.{Run, TookByPolls}
use Rattle.stream.specs.Runs.Run.{start, poll}
use Rattle.stream.specs.Views.{View}

-- An adapter M that holds a stream and a state:
module _ {M S F A B : Type 0} (below : Streams S A) (makes : F → A → Made B) (next : F → A → F) (stream : M → S) (state : M → F) where
  -- A poll of it that began at m has dropped some items, and come to t.
  pub record Reading (m t : M) : Type 0 where
    pub polls : ℕ
    pub run : Run below.answers below.pipeline (stream m) polls 0 (stream t)
    pub whole : itemwise makes next (state t) (below.answers (stream t)) ≡ itemwise makes next (state m) (below.answers (stream m))
    pub left : read_past makes next (state t) (below.answers (stream t)) ≡ read_past makes next (state m) (below.answers (stream m))

  -- A poll of it, from m to n, answered r, and took what its polls of its stream took
  abbrev PollOf : (view : View B) (alike : M → List (Answer view.Seen) → Type 0) (agree : (m : M) (ys : List (Answer view.Seen)) → alike m ys → Agree view.same (itemwise makes next (state m) (below.answers (stream m))) ys) → M → Answer B → M → Type 0
  PollOf view alike agree =
      Polled (λ m. itemwise makes next (state m) (below.answers (stream m))) (record { view = view; took = λ m w n. TookByPolls below.answers below.pipeline (stream m) w (stream n); alike = alike; agree = agree })

-- At first none is dropped.
pub begun : {M S F A B : Type 0} {below : Streams S A} {makes : F → A → Made B} {next : F → A → F} {stream : M → S} {state : M → F} {m : M} → Reading below makes next stream state m m
begun = record { polls = 0; run = start; whole = refl; left = refl }

-- Where it has come to t, and its next poll of the stream leaves n:
module _ {M S F A B : Type 0} {below : Streams S A} {makes : F → A → Made B} {next : F → A → F} {stream : M → S} {state : M → F} {m t n : M} (h : Reading below makes next stream state m t) where
  -- in one poll more,
  went : {r : Answer A} (r' : Answer A) → Polled below.answers below.pipeline (stream t) r (stream n) → r ≡ r' → Run below.answers below.pipeline (stream m) (h.polls + 1) (waits_in r') (stream n)
  went r' p e = rw (← zero-add (waits_in r')) (poll h.run (subst (λ z. Polled below.answers below.pipeline (stream t) z (stream n)) e p))

  -- the stream answers an item x that is dropped;
  pub drops : {r : Answer A} (x : A) → Polled below.answers below.pipeline (stream t) r (stream n) → r ≡ Ready (Some x) → makes (state t) x ≡ dropped → state n ≡ next (state t) x → Reading below makes next stream state m n
  drops x p e i k = record { polls = h.polls + 1; run = went (Ready (Some x)) p e; whole = grind arith; left = grind arith }

  module _ {view : View B} {alike : M → List (Answer view.Seen) → Type 0} {agree : (m : M) (ys : List (Answer view.Seen)) → alike m ys → Agree view.same (itemwise makes next (state m) (below.answers (stream m))) ys} where
    -- it waits;
    pub waits : {r : Answer A} → Polled below.answers below.pipeline (stream t) r (stream n) → r ≡ Pending → state n ≡ state t → PollOf below makes next stream state view alike agree m Pending n
    waits p e k = record { answer = grind arith; after = grind arith; took = (h.polls + 1, went Pending p e) }

    -- it answers None;
    pub passes_none : {r : Answer A} → Polled below.answers below.pipeline (stream t) r (stream n) → r ≡ Ready None → state n ≡ state t → PollOf below makes next stream state view alike agree m (Ready None) n
    passes_none p e k = record { answer = grind arith; after = grind arith; took = (h.polls + 1, went (Ready None) p e) }

    -- it answers an item x that becomes the item b.
    pub makes_item : {r : Answer A} {b : B} (x : A) → Polled below.answers below.pipeline (stream t) r (stream n) → r ≡ Ready (Some x) → makes (state t) x ≡ item b → state n ≡ next (state t) x → PollOf below makes next stream state view alike agree m (Ready (Some b)) n
    makes_item x p e i k = record { answer = grind arith; after = grind arith; took = (h.polls + 1, went (Ready (Some x)) p e) }
