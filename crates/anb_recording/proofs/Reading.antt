-- What is written line by line is read as these lines.
use Rattle.std.proofs.Common.{◌≡◌, ◌==◌, ℕ, false, List, [], ◌∷◌, ◌++◌, refl, ap, ◌∙◌, append_assoc}
use Rattle.std.specs.List.{AllByRecursion, AllZip, onto_first}
use Rattle.hex.specs.Hex.{encode_lower}
use Rattle.hex.proofs.HexLemmas.{decode_of-encode_lower}
use Rattle.anb_base.specs.Bytes.{IsBytes}
use Rattle.anb_values_text.proofs.LineOf.{IsNoBreak, digits_are_text}
use Rattle.anb_transcript.specs.Texts.{Says, lines_of}
use Rattle.anb_transcript.specs.declared.transcript.TranscriptLine.{TranscriptLine}
use Rattle.anb_transcript.specs.declared.transcript.TranscriptLine.TheVariants.{In, Out}
use Rattle.anb_recording.specs.Lines.{IsPlain, lines_text, spelled}

-- a line that is ended, and what stands behind it
line_first : (line rest : List ℕ) → AllByRecursion IsNoBreak line → lines_of (line ++ 10 ∷ rest) ≡ line ∷ lines_of rest
line_first [] rest all = refl
line_first (b ∷ bs) rest all = rw all.0 (ap (onto_first b) (line_first bs rest all.1))

spelled_first : (sign : ℕ) (bytes rest : List ℕ) → (sign == 10) ≡ false → IsBytes bytes → lines_of (spelled sign bytes ++ rest) ≡ (sign ∷ 32 ∷ encode_lower bytes) ∷ lines_of rest
spelled_first sign bytes rest none small =
    ap (λ (l : List ℕ). lines_of (sign ∷ 32 ∷ l)) (append_assoc (encode_lower bytes) (10 ∷ []) rest)
    ∙ line_first (sign ∷ 32 ∷ encode_lower bytes) rest (none, (refl, (digits_are_text bytes small).lines.1))

pub read_back : (lines : List TranscriptLine) → AllByRecursion IsPlain lines → AllZip Says (lines_of (lines_text lines)) lines
read_back [] all = tt
read_back (In b ∷ lines) all = rw (spelled_first 60 b (lines_text lines) refl all.0.0) (((encode_lower b, refl, decode_of-encode_lower b all.0.0), all.0.1), read_back lines all.1)
read_back (Out b ∷ lines) all = rw (spelled_first 62 b (lines_text lines) refl all.0) ((encode_lower b, refl, decode_of-encode_lower b all.0), read_back lines all.1)
