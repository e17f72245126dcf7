-- A poll of a consumer, step by step: what holds within it, and what each put and each answer of the stream makes of that. Every consumer's proof is built of these.
use Rattle.std.proofs.Common.{◌≡◌, ℕ, ◌+◌, List, [], ◌∷◌, Some, None, sym, refl, ap, ◌∙◌, subst, zero-add, add-one, arith}
use Rattle.stream.specs.declared.poll.Poll.TheVariants.{Ready, Pending}
use Rattle.stream.specs.declared.stream.Stream.{Ghosts as Streams}
use Rattle.stream.specs.Answers.{Answer, first, rest, waits_in}
use Rattle.stream.specs.Pipelines.{Polled as StreamPolled}
use Rattle.stream.specs.Runs.{Run}
use Rattle.stream.specs.Runs.Run.{start, poll}
use Rattle.sink.specs.declared.sink.Sink.{Ghosts as Sinks}
use Rattle.sink.specs.Puts.{Taken, Refused}
use Rattle.consume.specs.declared.step.Step.{Step}
use Rattle.consume.specs.declared.step.Step.TheVariants.{Wait, Full, Done, Fault}
use Rattle.consume.specs.declared.step.Ended.{Ended}
use Rattle.consume.specs.Puts.{Put, to_first, to_second, putting}
use Rattle.consume.specs.Meanings.{Meaning, Rule, Verdict, goes_on, stops, breaks}
use Rattle.consume.specs.Draws.{After, Ending, ended, by_verdict, drawing, full}
use Rattle.consume.specs.Polls.{Drew, Since, Stepped, Polled, poll_of, stream_of, waits_of}

-- A list goes on in None for ever, and reading on makes no difference.
read_first : {S I A B H K : Type 0} (rule : Rule S I A B) (f : H → A → H) (g : K → B → K) (s : S) (xs : List (Answer I)) (h : H) (m : ℕ) (k : K) (n : ℕ) → drawing rule f g s xs h m k n ≡ drawing rule f g s (first xs ∷ rest xs) h m k n
read_first rule f g s [] h m k n = refl
read_first rule f g s (x ∷ xs) h m k n = refl

same_verdict : {Z : Type 0} (a b c : Z) {v w : Verdict} → v ≡ w → by_verdict v a b c ≡ by_verdict w a b c
same_verdict a b c = ap (λ v. by_verdict v a b c)

module _ {X A : Type 0} {F : Sinks X A} where
  no_puts : (x : X) → Since F x x
  no_puts x = record { origin = refl; at_most = omega arith; untouched = λ e. refl }

  more_puts : {x u u' : X} → Since F x u → Since F u u' → Since F x u'
  more_puts {x = x} {u = u} {u' = u'} s r = record {
    origin = r.origin ∙ s.origin;
    at_most = omega (arith, s.at_most, r.at_most);
    untouched = λ e.
        let same : F.left u' ≡ F.left u = omega (arith, e, s.at_most, r.at_most) in
        r.untouched same ∙ s.untouched (sym same ∙ e);
  }

  one_put : {x u u' : X} {a : A} → Since F x u → Taken F.held F.makes F.left u a u' → F.origin u' ≡ F.origin u → Since F x u'
  one_put s p o = more_puts s (record {
    origin = o;
    at_most = omega (arith, p.fewer);
    untouched = λ e. absurd (omega (arith, e, p.fewer));
  })

-- Polls that took no wait, and then more.
joined : {T I : Type 0} {P : Streams T I} {s t u : T} {n m w : ℕ} → Run P.answers P.pipeline s n 0 t → Run P.answers P.pipeline t m w u → Drew P s w u
joined d start = record { polls = _; run = d }
joined d (poll run p) = record { polls = _; run = poll (joined d run).run p }

-- What a poll comes to that has the stream t, the state s and the puts ps still to make, with the sinks u and v.
abbrev pub comes_to : {C T I A B O E F X Y : Type 0} (M : Meaning C T I A B O E F) (P : Streams T I) (U : Sinks X A) (V : Sinks Y B) → T → M.State → List (Put A B) → X → Y → After M.State I A B U.Held V.Held
comes_to M P U V t s ps u v = putting U.makes V.makes (drawing M.rule U.makes V.makes s (P.answers t)) (λ qs. ended full qs s (P.answers t)) ps (U.held u) (U.left u) (V.held v) (V.left v)

module _ {C T I A B O E F X Y : Type 0} (M : Meaning C T I A B O E F) (P : Streams T I) (U : Sinks X A) (V : Sinks Y B) (c : C) (x : X) (y : Y) where
  -- Within a poll of c with the sinks x and y: it still comes to what the whole poll comes to, and has taken no wait.
  pub record Within (t : T) (s : M.State) (ps : List (Put A B)) (u : X) (v : Y) : Type 0 where
    pub same : comes_to M P U V t s ps u v ≡ poll_of M P U V c x y
    pub first_since : Since U x u
    pub second_since : Since V y v
    pub drew : Drew P (M.stream c) 0 t

module _ {C T I A B O E F X Y : Type 0} {M : Meaning C T I A B O E F} {P : Streams T I} {U : Sinks X A} {V : Sinks Y B} {c : C} {x : X} {y : Y} where
  -- As it begins, with what it keeps to put.
  pub begun : {ps : List (Put A B)} → M.kept c ≡ ps → Within M P U V c x y (M.stream c) (M.state c) ps x y
  begun e = record {
    same = ap (λ z. comes_to M P U V (M.stream c) (M.state c) z x y) (sym e);
    first_since = no_puts x;
    second_since = no_puts y;
    drew = record { polls = 0; run = start };
  }

  -- A put that is taken.
  pub first_taken : {t : T} {s : M.State} {u u' : X} {v : Y} {a : A} {ps : List (Put A B)} → Within M P U V c x y t s (to_first a ∷ ps) u v → Taken U.held U.makes U.left u a u' → U.origin u' ≡ U.origin u → Within M P U V c x y t s ps u' v
  first_taken {t = t} {s = s} {u = u} {u' = u'} {v = v} {a = a} {ps = ps} w p o =
      let e : comes_to M P U V t s (to_first a ∷ ps) u v ≡ comes_to M P U V t s ps u' v = rw p.holds (rw (sym p.fewer ∙ add-one (U.left u')) refl) in
      record { same = sym e ∙ w.same; first_since = one_put w.first_since p o; second_since = w.second_since; drew = w.drew }

  -- No consumer here puts in a second sink or stops yet: this lemma, `second_refused` and `stopped` are for those that will.
  pub second_taken : {t : T} {s : M.State} {u : X} {v v' : Y} {b : B} {ps : List (Put A B)} → Within M P U V c x y t s (to_second b ∷ ps) u v → Taken V.held V.makes V.left v b v' → V.origin v' ≡ V.origin v → Within M P U V c x y t s ps u v'
  second_taken {t = t} {s = s} {u = u} {v = v} {v' = v'} {b = b} {ps = ps} w p o =
      let e : comes_to M P U V t s (to_second b ∷ ps) u v ≡ comes_to M P U V t s ps u v' = rw p.holds (rw (sym p.fewer ∙ add-one (V.left v')) refl) in
      record { same = sym e ∙ w.same; first_since = w.first_since; second_since = one_put w.second_since p o; drew = w.drew }

  -- A poll goes on as one of the consumer k would that has the same still to do.
  pub continued : {k : C} {u u' : X} {v v' : Y} {r : Step C (Ended O T F) (Ended E T F)} → Within M P U V c x y (M.stream k) (M.state k) (M.kept k) u v → Polled M P U V k u v r u' v' → Polled M P U V c x y r u' v'
  continued {r = r} w p = record {
    first_sink = record { holds = p.first_sink.holds ∙ ap (λ a. a.held) w.same; places = p.first_sink.places ∙ ap (λ a. a.left) w.same; since = more_puts w.first_since p.first_sink.since };
    second_sink = record { holds = p.second_sink.holds ∙ ap (λ a. a.held₂) w.same; places = p.second_sink.places ∙ ap (λ a. a.left₂) w.same; since = more_puts w.second_since p.second_sink.since };
    step = subst (λ a. Stepped M P a r) w.same p.step;
    took = joined w.drew.run p.took.run;
  }

  -- a poll that ended as e, with the sinks as they are
  ends : {t : T} {s : M.State} {ps qs : List (Put A B)} {u : X} {v : Y} {r : Step C (Ended O T F) (Ended E T F)} {e : Ending} {s' : M.State} {xs : List (Answer I)} → Within M P U V c x y t s ps u v → comes_to M P U V t s ps u v ≡ ended e qs s' xs (U.held u) (U.left u) (V.held v) (V.left v) → Stepped M P (ended e qs s' xs (U.held u) (U.left u) (V.held v) (V.left v)) r → Drew P (M.stream c) (waits_of r) (stream_of M P r) → Polled M P U V c x y r u v
  ends {r = r} w q p d =
      let z = sym q ∙ w.same in
      record {
        first_sink = record { holds = ap (λ a. a.held) z; places = ap (λ a. a.left) z; since = w.first_since };
        second_sink = record { holds = ap (λ a. a.held₂) z; places = ap (λ a. a.left₂) z; since = w.second_since };
        step = subst (λ a. Stepped M P a r) z p;
        took = d;
      }

  -- A put that is refused ends the poll: the consumer keeps what is still to put.
  pub first_refused : {t : T} {s : M.State} {u u' : X} {v : Y} {a b : A} {ps : List (Put A B)} {k : C} → Within M P U V c x y t s (to_first a ∷ ps) u v → Refused U.held U.makes U.left u a b u' → M.kept k ≡ to_first b ∷ ps → M.state k ≡ s → M.stream k ≡ t → Polled M P U V c x y (Full k) u' v
  first_refused {a = a} {ps = ps} w p e o i = rw p.unchanged (ends {qs = to_first a ∷ ps} w (rw p.no_room refl) (refl, record { kept = rw (sym p.back) e; state = o; answers = ap P.answers i }) (rw i w.drew))

  pub second_refused : {t : T} {s : M.State} {u : X} {v v' : Y} {a b : B} {ps : List (Put A B)} {k : C} → Within M P U V c x y t s (to_second a ∷ ps) u v → Refused V.held V.makes V.left v a b v' → M.kept k ≡ to_second b ∷ ps → M.state k ≡ s → M.stream k ≡ t → Polled M P U V c x y (Full k) u v'
  second_refused {a = a} {ps = ps} w p e o i = rw p.unchanged (ends {qs = to_second a ∷ ps} w (rw p.no_room refl) (refl, record { kept = rw (sym p.back) e; state = o; answers = ap P.answers i }) (rw i w.drew))

  -- one poll of the stream more
  one_more : {t t' : T} {s : M.State} {u : X} {v : Y} {a : Answer I} → Within M P U V c x y t s [] u v → StreamPolled P.answers P.pipeline t a t' → Drew P (M.stream c) (waits_in a) t'
  one_more {t' = t'} {a = a} w p = record {
    polls = w.drew.polls + 1;
    run = subst (λ n. Run P.answers P.pipeline (M.stream c) (w.drew.polls + 1) n t') (zero-add (waits_in a)) (poll w.drew.run p);
  }

  -- what a poll comes to by the answer of its stream
  reads : {t t' : T} {s : M.State} {u : X} {v : Y} {a : Answer I} → Within M P U V c x y t s [] u v → StreamPolled P.answers P.pipeline t a t' → comes_to M P U V t s [] u v ≡ drawing M.rule U.makes V.makes s (a ∷ P.answers t') (U.held u) (U.left u) (V.held v) (V.left v)
  reads {t = t} {s = s} {u = u} {v = v} w p =
      rw p.answer (rw p.after (read_first M.rule U.makes V.makes s (P.answers t) (U.held u) (U.left u) (V.held v) (V.left v)))

  -- A wait of the stream ends the poll.
  pub waited : {t t' : T} {s : M.State} {u : X} {v : Y} {k : C} → Within M P U V c x y t s [] u v → StreamPolled P.answers P.pipeline t Pending t' → M.kept k ≡ [] → M.state k ≡ s → M.stream k ≡ t' → Polled M P U V c x y (Wait k) u v
  waited w p e o i = ends w (reads w p) (refl, record { kept = e; state = o; answers = ap P.answers i }) (rw i (one_more w p))

  -- None makes it done.
  pub finished : {t t' : T} {s : M.State} {u : X} {v : Y} {o : O} {f : F} → Within M P U V c x y t s [] u v → StreamPolled P.answers P.pipeline t (Ready None) t' → M.done s o f → Polled M P U V c x y (Done (record { value = o; stream = t'; callback = f })) u v
  finished w p d = ends w (reads w p) (refl, d, refl) (one_more w p)

  -- An item, at which it goes on in the state s' with the puts ps to make,
  pub item : {t t' : T} {s s' : M.State} {ps : List (Put A B)} {u : X} {v : Y} {i : I} → Within M P U V c x y t s [] u v → StreamPolled P.answers P.pipeline t (Ready (Some i)) t' → M.rule.verdict s i ≡ goes_on → M.rule.next s i ≡ s' → M.rule.puts s i ≡ ps → Within M P U V c x y t' s' ps u v
  item w p o n q = rw (sym n) (rw (sym q) (record {
    same = sym (reads w p ∙ same_verdict _ _ _ o) ∙ w.same;
    first_since = w.first_since;
    second_since = w.second_since;
    drew = one_more w p;
  }))

  -- stops,
  pub stopped : {t t' : T} {s : M.State} {u : X} {v : Y} {i : I} {o : O} {f : F} → Within M P U V c x y t s [] u v → StreamPolled P.answers P.pipeline t (Ready (Some i)) t' → M.rule.verdict s i ≡ stops → M.done (M.rule.next s i) o f → Polled M P U V c x y (Done (record { value = o; stream = t'; callback = f })) u v
  stopped w p q d = ends w (reads w p ∙ same_verdict _ _ _ q) (refl, d, refl) (one_more w p)

  -- or breaks off.
  pub broken : {t t' : T} {s : M.State} {u : X} {v : Y} {i : I} {e : E} {f : F} → Within M P U V c x y t s [] u v → StreamPolled P.answers P.pipeline t (Ready (Some i)) t' → M.rule.verdict s i ≡ breaks → M.fault (M.rule.next s i) e f → Polled M P U V c x y (Fault (record { value = e; stream = t'; callback = f })) u v
  broken w p q d = ends w (reads w p ∙ same_verdict _ _ _ q) (refl, d, refl) (one_more w p)
