-- The names of atoms and of agents.
use Rattle.std.proofs.Common.{◌≡◌, ℕ, List, [], ◌∷◌, ◌++◌, map, ap, refl, Bool, true, false, cond, inl, inr}
use Rattle.std.specs.Prelude.{◌||◌, ◌&&◌, unwrap_or}
use Rattle.std.specs.List.{flat_map}
use Rattle.std.specs.Str.{bytes_eq}
use Rattle.std.proofs.lemmas.Bool.{cases_Bool}
use Rattle.anb_index.specs.Places.{among, place_of}
use Rattle.anb_index.proofs.PlaceLemmas.{position_from-map}
use Rattle.anb_protocol.specs.declared.parts.Atom.{Atom}
use Rattle.anb_protocol.specs.Checks.{agent_names, is_agent, names_agent}
use Rattle.anb_protocol.specs.Protocols.{atom_number}

pub atom_numbered : (all : List Atom) (x : List ℕ) → unwrap_or (place_of (map (λ (a : Atom). a.name) all) x) 0 ≡ atom_number all x
atom_numbered all x = ap (λ o. unwrap_or o 0) (position_from-map (λ y. bytes_eq y x) (λ (a : Atom). a.name) 0 all)

agent_step : (a : Atom) (names : List (List ℕ)) (x : List ℕ) (b rest : Bool) → is_agent a.sort ≡ b → among names x ≡ rest
    → among (cond b (a.name ∷ []) [] ++ names) x ≡ ((bytes_eq a.name x && b) || rest)
agent_step a names x true rest e h = elim (cases_Bool (bytes_eq a.name x)) [
  | inl k ↦ rw k refl
  | inr k ↦ rw k h
]
agent_step a names x false rest e h = elim (cases_Bool (bytes_eq a.name x)) [
  | inl k ↦ rw k h
  | inr k ↦ rw k h
]

pub agents_named : (all : List Atom) (x : List ℕ) → among (flat_map agent_names all) x ≡ names_agent all x
agents_named [] x = refl
agents_named (a ∷ all) x = agent_step a (flat_map agent_names all) x (is_agent a.sort) (names_agent all x) refl (agents_named all x)
