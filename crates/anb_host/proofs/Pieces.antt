-- A frame that is read piece by piece.
use Rattle.std.proofs.Common.{◌≡◌, ◌+◌, ◌<◌, ◌≤◌, ◌^◌, inl, inr, ℕ, List, [], ◌∷◌, ◌++◌, length, take, Option, Some, None, Result, Err, refl, sym, ap, ◌∙◌, subst, arith, append_assoc, length-append}
use Rattle.std.proofs.lemmas.Bool.{cases_lt}
use Rattle.std.specs.Prelude.{slice_index}
use Rattle.std.proofs.lemmas.List.{append-nil, take_all}
use Rattle.anb_lemmas.proofs.Items.{one_item}
use Rattle.anb_base.specs.Moves.{Took, Stamped, count_written}
use Rattle.anb_base.specs.declared.TheConstants.{ARRIVAL}
use Rattle.anb_frame.specs.Answers.{TookAt}
use Rattle.anb_frame.specs.Frames.{length_bytes}
use Rattle.anb_frame.proofs.Lengths.{length-length_bytes}
use Rattle.anb_frame.proofs.Takings.{TookAt-joined}
use Rattle.anb_host.specs.declared.event.HostEvent.{HostEvent}
use Rattle.anb_host.specs.declared.event.HostEvent.TheVariants.{Arrive}
use Rattle.anb_host.specs.declared.serving.HostEnd.{HostEnd}
use Rattle.anb_host.specs.declared.serving.HostEnd.TheVariants.{NoMemory}
use Rattle.anb_host.specs.HostFrames.{IsFrame, IsPart, number}
use Rattle.anb_host.specs.Serving.{IsBegun}
use Rattle.anb_host.specs.Turns.{Says, ReadsOn}

-- ---- takings in a row, all while the same was written

pub took_none : (a d : Option (List ℕ)) (w : ℕ) → TookAt a a d d w []
took_none a d w = (none a, still d) where
  none : (a : Option (List ℕ)) → Took a a []
  none None = refl
  none (Some x) = refl

  still : (d : Option (List ℕ)) → Stamped d d w 0
  still None = refl
  still (Some x) = ap Some (sym (append-nil x))

pub took_while : (a b d e : Option (List ℕ)) (kept now : List (Option (List ℕ) × ℕ)) (z : List ℕ) → now ≡ kept → TookAt a b d e (count_written now) z → TookAt a b d e (count_written kept) z
took_while a b d e kept now z same t = subst (λ k. TookAt a b d e (count_written k) z) same t

-- ---- what a frame is by its pieces

pub header_long : (s len : ℕ) (body : List ℕ) → length (1 ∷ number s ++ number len ++ body) ≡ 9 + length body
header_long s len body =
    omega (arith, length-append (length_bytes s ++ length_bytes len) body, length-append (length_bytes s) (length_bytes len), length-length_bytes s, length-length_bytes len)

-- the beginning of an arrival
pub part_body : (s len : ℕ) (body : List ℕ) → s < 2 ^ 32 → len < 2 ^ 32 → length body < len → IsPart (1 ∷ number s ++ number len ++ body) (9 + len)
part_body s len body small fits short = inr (inr (s, len, body, refl, small, fits, short, refl))

pub begun_body : (s len : ℕ) (body : List ℕ) → s < 2 ^ 32 → len < 2 ^ 32 → length body < len → IsBegun (1 ∷ number s ++ number len ++ body)
begun_body s len body small fits short = inr (9 + len, part_body s len body small fits short)

pub whole_body : (s len : ℕ) (body : List ℕ) → s < 2 ^ 32 → len ≤ ARRIVAL → length body ≡ len → IsFrame (1 ∷ number s ++ number len ++ body) (Arrive s body)
whole_body s len body small fits long =
    (small, omega (arith, long), ap (λ l. 1 ∷ l) (append_assoc (length_bytes s) (length_bytes len) body ∙ ap (λ n. length_bytes s ++ (length_bytes n ++ body)) (sym long)))

-- no memory for the body
pub no_room : (s len : ℕ) → s < 2 ^ 32 → len ≤ ARRIVAL → (now : Option (List ℕ)) → Says (1 ∷ number s ++ number len ++ []) now (Err NoMemory)
no_room s len small fits now = elim (cases_lt 0 len) [
  | inl some ↦ inl (begun_body s len [] small (omega arith) some)
  | inr none ↦ inr (Arrive s [], whole_body s len [] small fits (omega arith))
]

-- a piece more in front
pub further : (a b c d e f : Option (List ℕ)) (w : ℕ) (begun p : List ℕ) (r : Result HostEvent HostEnd) → TookAt a b d e w p → ReadsOn b c e f w (begun ++ p) r → ReadsOn a c d f w begun r
further a b c d e f w begun p r t (z, u, says) =
    (p ++ z, TookAt-joined a b c d e f w p z t u, subst (λ x. Says x c r) (append_assoc begun p z) says)

pub reads_while : (a b d e : Option (List ℕ)) (kept now : List (Option (List ℕ) × ℕ)) (begun : List ℕ) (r : Result HostEvent HostEnd) → now ≡ kept
    → ReadsOn a b d e (count_written now) begun r → ReadsOn a b d e (count_written kept) begun r
reads_while a b d e kept now begun r same t = subst (λ k. ReadsOn a b d e (count_written k) begun r) same t

-- the one byte of a buffer
pub one_byte : (n k : ℕ) (buf : List ℕ) → length buf ≡ 1 → 0 < n → slice_index buf 0 ≡ k → take n buf ≡ k ∷ []
one_byte n k buf long some e = take_all n buf (omega (arith, long)) ∙ sym (one_item buf long) ∙ ap (λ b. b ∷ []) e
