-- Why a role lacks a term: where it stands behind a key that the role lacks, and who has that key.
use Rattle.std.specs.Prelude.{ℕ, ◌+◌, List, [], ◌∷◌, ◌++◌, map, filter, Bool, codes, decimal, Option, Some, None, if◌then◌else◌}
use Rattle.std.specs.List.{flat_map}
use Rattle.anb_term.specs.Tree.{Tree, leaf, node}
use Rattle.anb_protocol.specs.Plans.{PlanEvent, to_know, to_make, to_send, to_receive, plan_of}
use Rattle.anb_protocol.specs.Protocols.{ProtocolValue}
use Rattle.anb_protocol.specs.Texts.{term_text}
use Rattle.anb_reason.specs.Decided.{composes, is_among}
use Rattle.anb_lack.specs.Opened.{comes_out, holds, is_locked, missing_key, opened}
use Rattle.anb_lack.specs.declared.origins.Origin.{Origin}
use Rattle.anb_lack.specs.declared.origins.Origin.TheVariants.{Built, Known, Made, Received}

-- a term that a role can't undo, the first of its keys that it lacks, and where the role has it from
pub record LockValue : Type 0 where
  pub term : Tree
  pub key : Tree
  pub from : Origin

abbrev pub lock_of : List Tree → Origin → Tree → LockValue
lock_of S from t = record { term = t; key = missing_key S t; from = from }

-- what comes out of a term and can't be undone
abbrev pub locks_in : List Tree → Origin → Tree → List LockValue
locks_in S from t = map (lock_of S from) (filter (is_locked S) (comes_out (composes S) t))

abbrev pub locks_at : List Tree → PlanEvent → List LockValue
locks_at S (to_know t) = locks_in S Known t
locks_at S (to_make t) = []
locks_at S (to_send action t) = []
locks_at S (to_receive action t) = locks_in S (Received action) t

-- of what the role knows and received, in order
abbrev pub locks : List Tree → List PlanEvent → List LockValue
locks S plan = flat_map (locks_at S) plan

-- the first in which a term stands
abbrev pub lock_around : List LockValue → Tree → Option LockValue
lock_around [] u = None
lock_around (l ∷ ls) u = if holds l.term u then Some l else lock_around ls u

-- a part that is missing, what it stands in, and the key that is asked for
pub record RootValue : Type 0 where
  pub part : Tree
  pub lock : Option LockValue
  pub key : Tree

-- a part that stands in a lock lacks its key, and a name that stands in none is missing itself
abbrev pub rooted : Tree → Option LockValue → List RootValue
rooted u (Some l) = record { part = u; lock = Some l; key = l.key } ∷ []
rooted (leaf n) None = record { part = leaf n; lock = None; key = leaf n } ∷ []
rooted (node o ts) None = []

abbrev pub root_in : List LockValue → Tree → List RootValue
root_in ls u = rooted u (lock_around ls u)

abbrev pub roots : List Tree → List PlanEvent → List Tree → List RootValue
roots S plan us = flat_map (root_in (locks S plan)) us

-- ---- who has a key

-- the terms that a plan knows, and those that it makes
abbrev pub known_at : PlanEvent → List Tree
known_at (to_know t) = t ∷ []
known_at _ = []

abbrev pub made_at : PlanEvent → List Tree
made_at (to_make t) = t ∷ []
made_at _ = []

-- it composes from these terms and what comes out of them with keys that compose from them
abbrev pub is_had : List Tree → Tree → Bool
is_had S t = composes (opened S S) t

abbrev pub knows : ProtocolValue → Tree → ℕ → Bool
knows p k role = is_had (flat_map known_at (plan_of p role)) k

abbrev pub makes : ProtocolValue → Tree → ℕ → Bool
makes p k role = is_among (flat_map made_at (plan_of p role)) k

abbrev pub doer : Bool → (name verb key : List ℕ) → List ℕ
doer does name verb key = if does then codes "; " ++ (name ++ (verb ++ key)) else []

-- for each of these roles that does it, from a number on
abbrev pub doers : (ℕ → Bool) → (verb key : List ℕ) → ℕ → List (List ℕ) → List ℕ
doers does verb key n [] = []
doers does verb key n (name ∷ names) =
    doer (does n) name verb key ++ doers does verb key (n + 1) names

abbrev pub or_else : List ℕ → List ℕ → List ℕ
or_else [] y = y
or_else (b ∷ x) y = b ∷ x

-- the roles that know a key; where none does, who makes it; and else nobody
abbrev pub who : ProtocolValue → Tree → List ℕ
who p k =
    or_else (doers (knows p k) (codes " knows ") (term_text p k) 0 p.roles)
    (or_else (doers (makes p k) (codes " makes ") (term_text p k) 0 p.roles) (codes "; nobody knows " ++ term_text p k))

-- ---- as lines

abbrev pub place_text : Origin → List ℕ
place_text Known = codes ", known"
place_text Made = codes ", made"
place_text Built = codes ", built"
place_text (Received action) = codes " of action " ++ decimal action

-- where a part stands, and the key that this needs; or that the role lacks it
abbrev pub stands_text : ProtocolValue → (sender : List ℕ) → RootValue → Option LockValue → List ℕ
stands_text p sender r (Some l) =
    term_text p r.part ++ (codes " stands in " ++ (term_text p l.term ++ (place_text l.from ++ (codes ", which needs " ++ term_text p l.key))))
stands_text p sender r None = sender ++ (codes " lacks " ++ term_text p r.key)

abbrev pub root_line : ProtocolValue → (sender : List ℕ) → RootValue → List ℕ
root_line p sender r = stands_text p sender r r.lock ++ (who p r.key ++ codes "\n")
