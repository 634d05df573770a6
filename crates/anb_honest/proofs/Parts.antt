-- What a role is to do, by its plan.
use Rattle.std.proofs.Common.{◌≡◌, ℕ, ◌+◌, ◌≤◌, List, [], ◌∷◌, ◌++◌, length, map, Bool, true, false, cond, refl, ap, ◌∙◌, arith, length-append}
use Rattle.std.specs.Prelude.{filter_map, ◌==◌, ◌||◌}
use Rattle.std.specs.List.{AllByRecursion}
use Rattle.std.proofs.lemmas.List.Elements.{filter_map-append}
use Rattle.anb_term.specs.Tree.{Tree, leaf}
use Rattle.anb_lemmas.proofs.Each.{each_in_both}
use Rattle.anb_protocol.specs.Choices.{each_after}
use Rattle.anb_protocol.specs.Protocols.{ActionValue, ProtocolValue}
use Rattle.anb_protocol.specs.Texts.{known_by}
use Rattle.anb_protocol.specs.Plans.{to_know, to_make, to_send, to_receive, events_at, made, plan_of}
use Rattle.anb_protocol.specs.Schedules.{Turn, part_in, parts_of}
use Rattle.anb_honest.specs.Inside.{part_of}

knows_none : (role : ℕ) (ts : List Tree) → filter_map (part_of role) (map to_know ts) ≡ []
knows_none role [] = refl
knows_none role (t ∷ ts) = knows_none role ts

makes_none : (role : ℕ) (names : List ℕ) → filter_map (part_of role) (map (λ x. to_make (leaf x)) names) ≡ []
makes_none role [] = refl
makes_none role (x ∷ names) = makes_none role names

one_part : (role n : ℕ) (names : List ℕ) (t : Tree) (b d : Bool)
    → filter_map (part_of role) (cond b (map (λ x. to_make (leaf x)) names ++ to_send n t ∷ []) (cond d (to_receive n t ∷ []) []))
    ≡ cond (b || d) (record { role = role; action = n; sends = b } ∷ []) []
one_part role n names t true d =
    filter_map-append (part_of role) (map (λ x. to_make (leaf x)) names) (to_send n t ∷ [])
    ∙ ap (λ l. l ++ record { role = role; action = n; sends = true } ∷ []) (makes_none role names)
one_part role n names t false true = refl
one_part role n names t false false = refl

each_part : (p : ProtocolValue) (role : ℕ) (before acts : List ActionValue)
    → filter_map (part_of role) (each_after (events_at p role) before acts) ≡ each_after (part_in role) before acts
each_part p role before [] = refl
each_part p role before (a ∷ acts) =
    filter_map-append (part_of role) (events_at p role before a) (each_after (events_at p role) (before ++ a ∷ []) acts)
    ∙ ap (λ l. l ++ filter_map (part_of role) (each_after (events_at p role) (before ++ a ∷ []) acts)) (one_part role (length before + 1) (made p before a.message) a.message (a.from == role) (a.to == role))
    ∙ ap (λ l. part_in role before a ++ l) (each_part p role (before ++ a ∷ []) acts)

pub parts_are : (p : ProtocolValue) (role : ℕ) → filter_map (part_of role) (plan_of p role) ≡ parts_of p role
unfolding plan_of
parts_are p role =
    filter_map-append (part_of role) (map to_know (known_by p role)) (each_after (events_at p role) [] p.actions)
    ∙ ap (λ l. l ++ filter_map (part_of role) (each_after (events_at p role) [] p.actions)) (knows_none role (known_by p role))
    ∙ each_part p role [] p.actions

-- a part of this role at one of so many actions
pub record IsPartOf (role n : ℕ) (t : Turn) : Type 0 where
  pub own : t.role ≡ role
  pub least : 1 ≤ t.action
  pub most : t.action ≤ n

one_of : (role n k : ℕ) (b d : Bool) → 1 ≤ k → k ≤ n → AllByRecursion (IsPartOf role n) (cond d (record { role = role; action = k; sends = b } ∷ []) [])
one_of role n k b true least most = (record { own = refl; least = least; most = most }, tt)
one_of role n k b false least most = tt

each_of : (role n : ℕ) (before acts : List ActionValue) → length before + length acts ≡ n → AllByRecursion (IsPartOf role n) (each_after (part_in role) before acts)
each_of role n before [] count = tt
each_of role n before (a ∷ acts) count =
    each_in_both (IsPartOf role n) (part_in role before a) (each_after (part_in role) (before ++ a ∷ []) acts)
    (one_of role n (length before + 1) (a.from == role) ((a.from == role) || (a.to == role)) (omega arith) (omega arith))
    (each_of role n (before ++ a ∷ []) acts (omega (arith, length-append before (a ∷ []))))

pub parts_of_role : (p : ProtocolValue) (role : ℕ) → AllByRecursion (IsPartOf role (length p.actions)) (parts_of p role)
parts_of_role p role = each_of role (length p.actions) [] p.actions (omega arith)
