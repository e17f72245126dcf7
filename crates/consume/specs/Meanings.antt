-- What a consumer means.
use Rattle.std.specs.Prelude.{List}
use Rattle.consume.specs.Puts.{Put}

-- What becomes of a consumer at an item: it goes on to the next, it stops and is done, or it breaks off with a fault.
pub data Verdict : Type 0 where
  goes_on : Verdict
  stops : Verdict
  breaks : Verdict

-- What a consumer does with an item, by the state that it is in: whether it goes on, which state it comes to, and what it then puts. At an item at which it stops or breaks off nothing is put.
pub record Rule (S I A B : Type 0) : Type 0 where
  pub puts : S → I → List (Put A B)
  pub next : S → I → S
  pub verdict : S → I → Verdict

-- A consumer C over a stream T with items I, which puts items A and B, and hands back an output O or a fault E, with a callback F:
pub record Meaning (C T I A B O E F : Type 0) : Type 1 where
  -- the stream that it holds;
  pub stream : C → T
  -- what it keeps from item to item;
  pub State : Type 0
  pub state : C → State
  -- what it does with an item;
  pub rule : Rule State I A B
  -- what it took from its stream and has still to put;
  pub kept : C → List (Put A B)
  -- which output and callback it hands back with done, by the state that it has come to;
  pub done : State → O → F → Type 0
  -- and which fault and callback it hands back with a fault.
  pub fault : State → E → F → Type 0
