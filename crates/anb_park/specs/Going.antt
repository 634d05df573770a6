-- For proofs alone: what reading a body and going on from one give.
use Rattle.std.specs.Prelude.{◌≡◌, ◌≢◌, ℕ, ◌≤◌, ◌<◌, ◌^◌, ◌⊎◌, List, [], ◌++◌, length, take, All, true}
use Rattle.std.proofs.Common.{ap, sym, subst, append_assoc}
use Rattle.std.proofs.lemmas.List.{append-nil}
use Rattle.anb_base.specs.declared.TheConstants.{ARRIVAL}
use Rattle.anb_frame.specs.Frames.{frames, length_bytes}
use Rattle.anb_plays.specs.Plays.{waiting, ends, SendsFirst}
use Rattle.anb_code.specs.CodeValue.{CodeValue}
use Rattle.anb_machine.specs.Machines.{MachineValue, gives, waits}
use Rattle.anb_park.specs.declared.body.Head.{Head}
use Rattle.anb_park.specs.Records.{Parked, marker, after, play_of}
use Rattle.anb_park.specs.Lives.{LiveValue, Stands}

-- the bytes are the frames of these, each of which an arrival could be
pub record AreFrames (x : List ℕ) (bs : List (List ℕ)) : Type 0 where
  pub whole : x ≡ frames bs
  pub short : All (λ b. length b ≤ ARRIVAL) bs

-- what stands in front of the frames, and they
pub record HasHead (m : List ℕ) (head : Head) (rest : List ℕ) : Type 0 where
  pub whole : m ≡ marker ++ head.id ++ head.seed ++ length_bytes head.session ++ rest
  pub id : length head.id ≡ 32
  pub seed : length head.seed ≡ 32
  pub session : head.session < 2 ^ 32

abbrev pub HasNoHead : List ℕ → Type 0
HasNoHead m = (take 3 m ≢ marker) ⊎ (length m < 71)

-- a machine gives the rest of a run, from where that waits with all of these used
pub record RunsTo (old : MachineValue) (bs : List (List ℕ)) (new : MachineValue) : Type 0 where
  pub event : ℕ
  pub waiting : gives new [] ≡ ends (waiting event) []
  pub waits : waits new ≡ true
  pub comes : (more : List (List ℕ)) → SendsFirst (gives old (bs ++ more)) (gives old bs).sent (gives new more)

-- the run over these doesn't wait, or doesn't use them all
abbrev pub RunsElsewhere : MachineValue → List (List ℕ) → Type 0
RunsElsewhere old bs =
    (e : ℕ) → (gives old bs).end ≡ waiting e → (gives old bs).left ≡ [] → ⊥

-- a machine gives the rest of a session's play, from where that waits
pub record GoesOnFrom (code : CodeValue) (p : Parked) (machine : MachineValue) : Type 0 where
  pub waits : waits machine ≡ true
  pub next : (e : ℕ) × (gives machine [] ≡ ends (waiting e) [])
  pub comes : (more : List (List ℕ)) → SendsFirst (play_of code (after p more)) (play_of code p).sent (gives machine more)

-- a session stands where it stood, or further by these arrivals
pub record StandsOn (old : LiveValue) (used : List (List ℕ)) (new : LiveValue) : Type 0 where
  pub each : (code : CodeValue) (p : Parked) (sent : List (List ℕ)) → Stands code p sent old
      → (sent_now : List (List ℕ)) × Stands code (after p used) sent_now new

pub after_nothing : (p : Parked) → after p [] ≡ p
after_nothing p = ap (λ (l : List (List ℕ)). record p { arrivals = l }) (append-nil p.arrivals)

pub after_both : (p : Parked) (xs ys : List (List ℕ)) → after (after p xs) ys ≡ after p (xs ++ ys)
after_both p xs ys =
    ap (λ (l : List (List ℕ)). record p { arrivals = l }) (append_assoc p.arrivals xs ys)

pub stands_still : (live : LiveValue) → StandsOn live [] live
stands_still live = record {
  each = λ code p sent s.
      (sent, subst (λ (q : Parked). Stands code q sent live) (sym (after_nothing p)) s);
}

pub stands_further : (old mid new : LiveValue) (some more : List (List ℕ))
    → StandsOn old some mid → StandsOn mid more new → StandsOn old (some ++ more) new
stands_further old mid new some more one two = record {
  each = λ code p sent s.
      let f = one.each code p sent s in
      let g = two.each code (after p some) f.0 f.1 in
      (g.0, subst (λ (q : Parked). Stands code q g.0 new) (after_both p some more) g.1);
}
