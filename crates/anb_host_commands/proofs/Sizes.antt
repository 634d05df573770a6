-- How many bytes the frames of events have, and what they are.
use Rattle.std.proofs.Common.{◌≡◌, ℕ, zero, suc, ◌<◌, List, [], ◌∷◌, ◌++◌, length, take, drop, Option, Some, None, refl, sym, ap, ◌∙◌, subst, arith, length-append}
use Rattle.std.proofs.lemmas.List.{drop_at}
use Rattle.anb_base.specs.Bytes.{IsBytes}
use Rattle.anb_base.specs.Moves.{Took}
use Rattle.anb_base.proofs.Strings.{bytes_right}
use Rattle.anb_frame.specs.Frames.{frame, length_bytes}
use Rattle.anb_host.specs.declared.event.HostEvent.{HostEvent}
use Rattle.anb_host.specs.declared.event.HostEvent.TheVariants.{Start, Arrive, Oversize}
use Rattle.anb_host.specs.HostFrames.{IsFrame, Tail, Bad, End, HostFrames}
use Rattle.anb_host.proofs.Served.{size_is}
use Rattle.anb_command.proofs.Cutting.{bytes_taken}
use Rattle.anb_host_commands.specs.HostCommand.{sizes}
use Rattle.anb_host_commands.proofs.Alike.{HasBytes, HaveBytes}

-- whole frames have the sizes of their events
pub frames_size : (x : List ℕ) (events : List HostEvent) → HostFrames x events End → length x ≡ sizes events
frames_size x [] is = ap length is
frames_size x (e ∷ events) (z, rest, is, f, more) =
    omega (arith, ap length is, length-append z rest, size_is z e f, frames_size rest events more)

-- what is no kind of frame is above all kinds
pub bad_above : (x : List ℕ) (events : List HostEvent) (kind : ℕ) → HostFrames x events (Bad kind) → 1 < kind
bad_above x [] kind (rest, is, above) = above
bad_above x (e ∷ events) kind (z, rest, is, f, more) = bad_above rest events kind more

-- ---- bytes

frame_bytes : (z : List ℕ) (e : HostEvent) → IsBytes z → IsFrame z e → HasBytes e
frame_bytes z (Start s) bytes is = tt
frame_bytes z (Oversize s len) bytes is = tt
frame_bytes z (Arrive s b) bytes (small, fits, is) =
    (bytes_right (length_bytes (length b)) b (bytes_right (length_bytes s) (frame b) (bytes_right (1 ∷ []) (length_bytes s ++ frame b) (subst IsBytes is bytes))), tt)

pub events_bytes : (x : List ℕ) (events : List HostEvent) (tail : Tail) → IsBytes x → HostFrames x events tail → HaveBytes events
events_bytes x [] tail bytes ends = tt
events_bytes x (e ∷ events) tail bytes (z, rest, is, f, more) =
    (frame_bytes z e (bytes_taken x (Some rest) z bytes is) f, events_bytes rest events tail (bytes_right z rest (subst IsBytes is bytes)) more)

pub take_bytes : (k : ℕ) (events : List HostEvent) → HaveBytes events → HaveBytes (take k events)
take_bytes zero events have = tt
take_bytes (suc k) [] have = tt
take_bytes (suc k) (e ∷ events) (b, more) = (b, take_bytes k events more)

-- ---- what is left behind what was taken

pub took_rest : (left : List ℕ) (now : Option (List ℕ)) (bytes : List ℕ) → Took (Some left) now bytes → now ≡ Some (drop (length bytes) left)
took_rest left None bytes took = absurd took
took_rest left (Some rest) bytes took = ap Some (sym (ap (drop (length bytes)) took ∙ drop_at bytes rest (length bytes) refl))
