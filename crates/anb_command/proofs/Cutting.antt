-- The bytes of an input's frames.
use Rattle.std.proofs.Common.{◌≡◌, ℕ, ◌≤◌, List, [], ◌∷◌, ◌++◌, length, All, Option, Some, None, ap, sym, ◌∙◌, subst, append_assoc}
use Rattle.std.specs.List.{AllByRecursion}
use Rattle.std.proofs.lemmas.List.Elements.{All-append}
use Rattle.std.proofs.lemmas.Grind.{flat_map-append}
use Rattle.anb_base.specs.Bytes.{IsBytes}
use Rattle.anb_base.specs.Moves.{Took}
use Rattle.anb_base.specs.declared.TheConstants.{ARRIVAL}
use Rattle.anb_base.proofs.Strings.{bytes_left, bytes_right}
use Rattle.anb_frame.specs.Frames.{frame, frames, length_bytes}
use Rattle.anb_frame.specs.Cuts.{Tail, Cut}

pub bytes_in_frames : (bs : List (List ℕ)) → IsBytes (frames bs) → AllByRecursion IsBytes bs
bytes_in_frames [] bytes = tt
bytes_in_frames (b ∷ bs) bytes =
    (bytes_right (length_bytes (length b)) b (bytes_left (frame b) (frames bs) bytes), bytes_in_frames bs (bytes_right (frame b) (frames bs) bytes))

-- the arrivals of an input of bytes are strings of bytes
pub bytes_in_cut : (left : List ℕ) (arrivals : List (List ℕ)) (tail : Tail) → IsBytes left → Cut ARRIVAL left arrivals tail → AllByRecursion IsBytes arrivals
bytes_in_cut left arrivals tail bytes (z, is, short, ends) = bytes_in_frames arrivals (bytes_left (frames arrivals) z (subst IsBytes is bytes))

-- and so is what was taken of it
pub bytes_taken : (left : List ℕ) (now : Option (List ℕ)) (taken : List ℕ) → IsBytes left → Took (Some left) now taken → IsBytes taken
bytes_taken left None taken bytes took = absurd took
bytes_taken left (Some rest) taken bytes took = bytes_left taken rest (subst IsBytes took bytes)

-- frames in front of an input that is cut
pub cut_behind : (left later : List ℕ) (heard bs : List (List ℕ)) (tail : Tail) → All (λ (x : List ℕ). length x ≤ ARRIVAL) heard → left ≡ frames heard ++ later → Cut ARRIVAL later bs tail
    → Cut ARRIVAL left (heard ++ bs) tail
cut_behind left later heard bs tail short is (z, later_is, rest_short, ends) = (
  z,
  is ∙ ap (λ l. frames heard ++ l) later_is ∙ sym (append_assoc (frames heard) (frames bs) z) ∙ ap (λ l. l ++ z) (sym (flat_map-append frame heard bs)),
  All-append (λ (x : List ℕ). length x ≤ ARRIVAL) heard bs short rest_short,
  ends,
)
