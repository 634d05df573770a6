-- What a partner is handed is short, where what all roles begin with is.
use Rattle.std.proofs.Common.{◌≡◌, ◌≤◌, ◌<◌, ℕ, zero, suc, ◌+◌, ◌*◌, cond, List, [], ◌∷◌, ◌++◌, length, Bool, true, false, sym, subst, All, arith}
use Rattle.std.specs.Prelude.{◌==◌, count_by}
use Rattle.std.specs.List.{flat_map, range_with_len}
use Rattle.std.proofs.lemmas.List.Concat.{flat_map-cons}
use Rattle.std.proofs.lemmas.List.Elements.{All-append, All-cons, All-map, All-nil}
use Rattle.anb_base.specs.declared.TheConstants.{ARRIVAL}
use Rattle.anb_partner.specs.Values.{handed_values_by, initial_values, made_values}
use Rattle.anb_protocol.specs.Plans.{is_to_make, plan_of}
use Rattle.anb_protocol.specs.Protocols.{ProtocolValue}
use Rattle.anb_seal.specs.Streams.{draw_of}
use Rattle.anb_seal.proofs.Words.{length-stream_bytes}
use Rattle.anb_probe_commands.specs.Tasks.{AllShort}

abbrev IsBrief : List ℕ → Type 0
IsBrief value = length value ≤ ARRIVAL

all_any : {A : Type 0} (P : A → Type 0) → ((x : A) → P x) → (xs : List A) → All P xs
all_any P each [] = All-nil P
all_any P each (x ∷ xs) = All-cons P x xs (each x) (all_any P each xs)

all_range : {A : Type 0} (P : A → Type 0) (f : ℕ → List A) (a n : ℕ) → ((i : ℕ) → a ≤ i → i < a + n → All P (f i)) → All P (flat_map f (range_with_len a n))
all_range P f a zero each = All-nil P
all_range P f a (suc n) each =
    subst (All P) (sym (flat_map-cons f a (range_with_len (a + 1) n)))
    (All-append P (f a) (flat_map f (range_with_len (a + 1) n)) (each a (omega arith) (omega arith)) (all_range P f (a + 1) n (λ i low high. each i (omega (arith, low)) (omega (arith, high)))))

module _ (p : ProtocolValue) (values : List (List ℕ)) (seed : List ℕ) (short : AllShort p values) where
  made_short : (role : ℕ) → All IsBrief (made_values p values seed role)
  made_short role = All-map IsBrief (draw_of seed role) (range_with_len 0 (count_by is_to_make (plan_of p role)))
      (all_any (λ i. IsBrief (draw_of seed role i)) (λ i. let size : length (draw_of seed role i) ≡ 4 * 8 = length-stream_bytes _ role (8 * i) 8 in omega (arith, size)) _)

  handed_by_short : (role other : ℕ) → other < length p.roles → All IsBrief (handed_values_by p values seed role other)
  handed_by_short role other within = by (other == role) where
    by : (b : Bool) → All IsBrief (cond b [] (initial_values p values seed other ++ made_values p values seed other))
    by true = All-nil IsBrief
    by false = All-append IsBrief (initial_values p values seed other) (made_values p values seed other) (short other within) (made_short other)

  pub handed_short : (role : ℕ) → All IsBrief (flat_map (handed_values_by p values seed role) (range_with_len 0 (length p.roles)))
  handed_short role = all_range IsBrief (handed_values_by p values seed role) 0 (length p.roles) (λ i low high. handed_by_short role i (omega (arith, high)))
