-- For proofs alone: what a role can have after some events, by the entries of its closure.
use Rattle.std.specs.Prelude.{◌≡◌, ℕ, ◌+◌, ◌<◌, ◌≤◌, List, length, take, Some, slice_get}
use Rattle.anb_term.specs.Tree.{Tree, leaf, node, Trees, none, more}
use Rattle.anb_close.specs.declared.entry.Entry.{Entry}
use Rattle.anb_close.specs.Entries as entries
use Rattle.anb_close.specs.Entries.{IsKnown}
use Rattle.anb_protocol.specs.Plans.{PlanEvent}
use Rattle.anb_compile.specs.Unsent.{labels_of}
use Rattle.anb_lack.specs.declared.origins.Origin.{Origin}
use Rattle.anb_lack.specs.Origins.{IsFrom}

abbrev mutual
  -- a composition names the first c entries alone
  pub IsWithin : ℕ → Tree → Type 0
  IsWithin c (leaf n) = n < c
  IsWithin c (node o ms) = AreWithin c ms

  pub AreWithin : ℕ → Trees → Type 0
  AreWithin c none = Unit {0}
  AreWithin c (more m ms) = IsWithin c m × AreWithin c ms

-- the first c entries are those after m events
pub record IsStage (plan : List PlanEvent) (es : List Entry) (m c : ℕ) : Type 0 where
  pub within : c ≤ length es
  pub known : IsKnown (take c es)
  pub labels : entries.labels_of (take c es) ≡ labels_of (take m plan)

-- entry k came with an event that brings what is from there
pub record CameFrom (plan : List PlanEvent) (counts : List ℕ) (k : ℕ) (origin : Origin) : Type 0 where
  pub n : ℕ
  pub event : PlanEvent
  pub before : ℕ
  pub after : ℕ
  pub is_event : slice_get plan n ≡ Some event
  pub is_from : IsFrom event origin
  pub is_before : slice_get counts n ≡ Some before
  pub is_after : slice_get counts (n + 1) ≡ Some after
  pub above : before ≤ k
  pub below : k < after

-- the entries after i events, each with where it is from
pub record IsHeld (plan : List PlanEvent) (i : ℕ) (es : List Entry) (from : List Origin) : Type 0 where
  pub counts : List ℕ
  pub long : length counts ≡ i + 1
  pub last : slice_get counts i ≡ Some (length es)
  pub stage : (m c : ℕ) → slice_get counts m ≡ Some c → IsStage plan es m c
  pub rises : (m n c d : ℕ) → m ≤ n → slice_get counts m ≡ Some c → slice_get counts n ≡ Some d → c ≤ d
  pub each : (k : ℕ) (origin : Origin) → slice_get from k ≡ Some origin → CameFrom plan counts k origin
  pub all : length from ≡ length es
