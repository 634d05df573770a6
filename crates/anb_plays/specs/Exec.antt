-- A run over the values of registers, as a machine keeps them.
use Rattle.std.specs.Prelude.{◌≡◌, ℕ, suc, ◌+◌, ◌-◌, ◌<◌, List, [], ◌∷◌, ◌++◌, length, Bool, IsTrue, Option, Some, None, option_and_then, slice_get, if◌then◌else◌}
use Rattle.std.specs.List.{All}
use Rattle.anb_term.specs.declared.term.Op.{Op}
use Rattle.anb_term.specs.Operator.{arity, keys}
use Rattle.anb_term.specs.Value.{Meaning}
use Rattle.anb_term.specs.Lawful.{picked}
use Rattle.anb_term.specs.Demand.{alike}
use Rattle.anb_plays.specs.Plays.{Played, stopped, waiting, done, ends}
use Rattle.anb_plays.specs.Codes.{Act, takes, draws, receives, sends, works, Work, make, undo, equal}
use Rattle.anb_plays.specs.Runs.{says_if}

-- what comes next where something was written, and else the stop
abbrev pub on_written : {A B : Type 0} → Option A → (A → B) → B → B
on_written None next stop = stop
on_written (Some x) next stop = next x

module _ {A : Type 0} (m : Meaning A) where
  -- what a work writes, where its demand is true
  abbrev pub worked : List A → Work → Option (List A)
  worked table (make o ns) = Some (m.built o (picked table ns) ∷ [])
  worked table (undo o ks n) = option_and_then (m.undone o (picked table ks)) (slice_get table n)
  worked table (equal a b) = if alike m (slice_get table a) (slice_get table b) then Some [] else None

  -- as a run, with the values of the registers; those of the takes are written before
  abbrev pub exec : (ℕ → A) → List Act → List A → ℕ → ℕ → ℕ → List A → Played A
  exec draw [] table e at i arrivals = ends done arrivals
  exec draw (takes ∷ acts) table e at i arrivals = exec draw acts table e (at + 1) i arrivals
  exec draw (draws ∷ acts) table e at i arrivals = exec draw acts (table ++ draw i ∷ []) e (at + 1) (i + 1) arrivals
  exec draw (receives ∷ acts) table e at i [] = ends (waiting (e + 1)) []
  exec draw (receives ∷ acts) table e at i (x ∷ arrivals) = exec draw acts (table ++ x ∷ []) (e + 1) (at + 1) i arrivals
  exec draw (sends n ∷ acts) table e at i arrivals = says_if (slice_get table n) (exec draw acts table (e + 1) (at + 1) i arrivals)
  exec draw (works w ∷ acts) table e at i arrivals =
      on_written (worked table w) (λ ws. exec draw acts (table ++ ws) e (at + 1) i arrivals) (ends (stopped e (at + 1)) arrivals)

-- how many registers a work writes
abbrev pub count_written : Work → ℕ
count_written (make o ns) = 1
count_written (undo o ks n) = arity o - keys o
count_written (equal a b) = 0

module _ (has : Op → Bool) where
  -- a work names registers below n, which were written, and as many as its operator wants
  abbrev pub IsReady : ℕ → Work → Type 0
  IsReady n (make o ns) = IsTrue (has o) × (length ns ≡ arity o) × All (λ k. k < n) ns
  IsReady n (undo o ks r) = IsTrue (has o) × (length ks ≡ keys o) × All (λ k. k < n) ks × (r < n)
  IsReady n (equal a b) = (a < n) × (b < n)

  -- each act names registers that were written, with n registers written before; takes write nothing here
  abbrev pub IsVerified : List Act → ℕ → Type 0
  IsVerified [] n = Unit {0}
  IsVerified (takes ∷ acts) n = IsVerified acts n
  IsVerified (draws ∷ acts) n = IsVerified acts (n + 1)
  IsVerified (receives ∷ acts) n = IsVerified acts (n + 1)
  IsVerified (sends r ∷ acts) n = (r < n) × IsVerified acts n
  IsVerified (works w ∷ acts) n = IsReady n w × IsVerified acts (n + count_written w)

  abbrev pub NoTakes : List Act → Type 0
  NoTakes [] = Unit {0}
  NoTakes (takes ∷ acts) = ⊥
  NoTakes (act ∷ acts) = NoTakes acts

  -- after k takes: there are n takes in all, all of them first, and what follows is verified
  abbrev pub HasTakes : List Act → ℕ → ℕ → Type 0
  HasTakes (takes ∷ acts) k n = HasTakes acts (suc k) n
  HasTakes acts k n = (k ≡ n) × IsVerified acts n × NoTakes acts
