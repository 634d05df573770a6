-- How many bytes are written to all children, before and after a write.
use Rattle.std.proofs.Common.{◌≡◌, ◌≢◌, ◌<◌, ◌+◌, ℕ, zero, suc, List, length, Option, Some, None, refl, sym, ap, ◌∙◌, subst, arith, inl, inr, length-append}
use Rattle.std.specs.Option.{option_map_or}
use Rattle.anb_base.specs.Moves.{Put}
use Rattle.anb_stage.specs.Children.{written_below}
use Rattle.anb_stage.proofs.Roles.{one_or_other}

pub written_none : (inputs : ℕ → Option (List ℕ)) → 0 ≡ written_below 0 inputs
unfolding written_below
written_none inputs = refl

pub written_next : (n : ℕ) (inputs : ℕ → Option (List ℕ)) → written_below (n + 1) inputs ≡ option_map_or length (inputs n) 0 + written_below n inputs
unfolding written_below
written_next n inputs = let next : n + 1 ≡ suc n = omega arith in rw next refl

pub same_below : (n : ℕ) (old new : ℕ → Option (List ℕ)) → ((role : ℕ) → role < n → new role ≡ old role) → written_below n new ≡ written_below n old
unfolding written_below
same_below zero old new same = refl
same_below (suc n) old new same =
    ap (λ input. option_map_or length input 0 + written_below n new) (same n (omega arith))
    ∙ ap (λ below. option_map_or length (old n) 0 + below) (same_below n old new (λ role below. same role (omega (arith, below))))

put_size : (old new : Option (List ℕ)) (bytes : List ℕ) → old ≢ None → Put old new bytes → option_map_or length new 0 ≡ option_map_or length old 0 + length bytes
put_size None new bytes told put = absurd (told refl)
put_size (Some old) new bytes told put = ap (λ w. option_map_or length w 0) put ∙ length-append old bytes

-- bytes were put at one of these inputs
pub put_below : (n role : ℕ) (old new : ℕ → Option (List ℕ)) (bytes : List ℕ) → role < n → ((other : ℕ) → other < n → other ≢ role → new other ≡ old other)
    → old role ≢ None → Put (old role) (new role) bytes → written_below n new ≡ written_below n old + length bytes
unfolding written_below
put_below zero role old new bytes below others told put = absurd (omega (arith, below))
put_below (suc n) role old new bytes below others told put = elim (one_or_other role n) [
  | inl e ↦
      let told_here : old n ≢ None = subst (λ (r : ℕ). old r ≢ None) e told in
      let put_here : Put (old n) (new n) bytes = subst (λ (r : ℕ). Put (old r) (new r) bytes) e put in
      let size = put_size (old n) (new n) bytes told_here put_here in
      let rest = same_below n old new (λ other less. others other (omega (arith, less)) (λ same. omega (arith, same, less, e))) in
      omega (arith, size, rest)
  | inr d ↦
      let here : option_map_or length (new n) 0 ≡ option_map_or length (old n) 0 = ap (λ input. option_map_or length input 0) (others n (omega arith) (λ same. d (sym same))) in
      let rest = put_below n role old new bytes (omega (arith, below, d)) (λ other less. others other (omega (arith, less))) told put in
      omega (arith, here, rest)
]
