-- How far a text is read.
use Rattle.std.proofs.Common.{◌≡◌, ◌<◌, ◌≤◌, ◌+◌, ℕ, List, [], ◌∷◌, ◌++◌, length, All, refl, sym, ap, ◌∙◌, append_assoc, arith, length-append}
use Rattle.std.specs.List.{AllZip}
use Rattle.std.proofs.lemmas.List.{append-nil}
use Rattle.std.proofs.lemmas.List.Elements.{All-nil, All-cons}
use Rattle.anb_base.specs.declared.TheConstants.{ARRIVAL}
use Rattle.anb_transcript.specs.declared.transcript.TranscriptLine.{TranscriptLine}
use Rattle.anb_transcript.specs.declared.transcript.TranscriptLine.TheVariants.{In, Out}
use Rattle.anb_transcript.specs.Replays.{arrivals_of}
use Rattle.anb_transcript.specs.Texts.{Says, IsFirstFaulty, lines_of}
use Rattle.anb_lemmas.proofs.Each.{zip_and_last}

zip_length : {X Y : Type 0} (R : X → Y → Type 0) (xs : List X) (ys : List Y) → AllZip R xs ys → length xs ≡ length ys
zip_length R [] [] all = refl
zip_length R [] (b ∷ bs) all = absurd all
zip_length R (a ∷ as') [] all = absurd all
zip_length R (a ∷ as') (b ∷ bs) all = omega (arith, zip_length R as' bs all.1)

-- the lines before the rest say this
pub record IsReadTo (text rest : List ℕ) (said : List TranscriptLine) : Type 0 where
  pub before : List (List ℕ)
  pub lines : lines_of text ≡ before ++ lines_of rest
  pub says : AllZip Says before said
  pub size : length said + length rest ≤ length text

pub read_nothing : (text : List ℕ) → IsReadTo text text []
read_nothing text = record { before = []; lines = refl; says = tt; size = omega arith }

pub read_further : (text rest after line : List ℕ) (said : List TranscriptLine) (next : TranscriptLine) → IsReadTo text rest said → lines_of rest ≡ line ∷ lines_of after → length after < length rest → Says line next
    → IsReadTo text after (said ++ next ∷ [])
read_further text rest after line said next read first less says = record {
  before = read.before ++ line ∷ [];
  lines = read.lines ∙ ap (λ t. read.before ++ t) first ∙ sym (append_assoc read.before (line ∷ []) (lines_of after));
  says = zip_and_last Says read.before said line next read.says says;
  size = omega (arith, read.size, less, length-append said (next ∷ []));
}

pub faulty_there : (text rest after line : List ℕ) (said : List TranscriptLine) → IsReadTo text rest said → lines_of rest ≡ line ∷ lines_of after → ((other : TranscriptLine) → Says line other → ⊥)
    → IsFirstFaulty (lines_of text) (length said + 1)
faulty_there text rest after line said read first none =
    (read.before, line, lines_of after, said, read.lines ∙ ap (λ t. read.before ++ t) first, omega (arith, zip_length Says read.before said read.says), read.says, none)

pub read_whole : (text rest : List ℕ) (said : List TranscriptLine) → IsReadTo text rest said → rest ≡ [] → AllZip Says (lines_of text) said
read_whole text rest said read none =
    let all : lines_of text ≡ read.before = read.lines ∙ ap (λ t. read.before ++ lines_of t) none ∙ append-nil read.before in
    rw all read.says

pub arrivals_are_short : (lines : List (List ℕ)) (said : List TranscriptLine) → AllZip Says lines said → All (λ (arrival : List ℕ). length arrival ≤ ARRIVAL) (arrivals_of said)
arrivals_are_short [] [] says = All-nil (λ (arrival : List ℕ). length arrival ≤ ARRIVAL)
arrivals_are_short [] (next ∷ said) says = absurd says
arrivals_are_short (line ∷ lines) [] says = absurd says
arrivals_are_short (line ∷ lines) (In arrival ∷ said) says = All-cons (λ (arrival : List ℕ). length arrival ≤ ARRIVAL) arrival (arrivals_of said) says.0.1 (arrivals_are_short lines said says.1)
arrivals_are_short (line ∷ lines) (Out message ∷ said) says = arrivals_are_short lines said says.1
