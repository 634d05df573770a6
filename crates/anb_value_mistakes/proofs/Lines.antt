-- One line more.
use Rattle.std.proofs.Common.{◌≡◌, ◌<◌, ◌≤◌, ◌+◌, ℕ, All, List, [], ◌∷◌, ◌++◌, length, take, drop, get_or, true, refl, sym, ap, ◌∙◌, subst}
use Rattle.std.specs.List.{AllZip}
use Rattle.std.proofs.lemmas.List.{append_assoc, drop_more, take_more}
use Rattle.std.proofs.lemmas.List.Elements.{All-push}
use Rattle.anb_base.specs.declared.TheConstants.{SMALL_FILE}
use Rattle.anb_lemmas.proofs.Each.{zip_and_last}
use Rattle.anb_value_mistakes.specs.Diagnosis.{diagnosis}
use Rattle.anb_value_mistakes.specs.Mistakes.{faulty_text, faulty_texts, is_faulty, pointed_wrong}
use Rattle.anb_value_mistakes.specs.Reading.{IsRead}
use Rattle.anb_value_mistakes.specs.declared.reading.ReadLine.{ReadLine}

pub read_more : (lines : List (List ℕ)) (n : ℕ) (line : List ℕ) (reads : List ReadLine) (read : ReadLine) → n < length lines → line ≡ get_or lines n line
    → AllZip IsRead (take n lines) reads → IsRead line read → AllZip IsRead (take (n + 1) lines) (reads ++ read ∷ [])
read_more lines n line reads read within is all one =
    let next : take (n + 1) lines ≡ take n lines ++ line ∷ [] = take_more lines n line within ∙ ap (λ x. take n lines ++ x ∷ []) (sym is) in
    subst (λ (ls : List (List ℕ)). AllZip IsRead ls (reads ++ read ∷ [])) (sym next) (zip_and_last IsRead (take n lines) reads line read all one)

pub short_more : (reads : List ReadLine) (read : ReadLine) → All (λ (r : ReadLine). length r.line ≤ SMALL_FILE) reads → length read.line ≤ SMALL_FILE
    → All (λ (r : ReadLine). length r.line ≤ SMALL_FILE) (reads ++ read ∷ [])
short_more reads read all short = All-push (λ (r : ReadLine). length r.line ≤ SMALL_FILE) reads read all short

-- ---- what is said of a line that isn't of the grammar

pub faulty_is : (name : List ℕ) (number : ℕ) (read : ReadLine) → is_faulty read.said ≡ true → faulty_text name number read ≡ pointed_wrong name number read.line (diagnosis read.line)
faulty_is name number read is = rw is refl

pub faulty_more : (name : List ℕ) (reads : List ReadLine) (i : ℕ) (read : ReadLine) → i < length reads → read ≡ get_or reads i read → (out : List ℕ)
    → (out ++ faulty_text name (i + 1) read) ++ faulty_texts name (i + 1 + 1) (drop (i + 1) reads) ≡ out ++ faulty_texts name (i + 1) (drop i reads)
faulty_more name reads i read within is out =
    let rest : drop i reads ≡ read ∷ drop (i + 1) reads = drop_more reads i read within ∙ ap (λ r. r ∷ drop (i + 1) reads) (sym is) in
    append_assoc out (faulty_text name (i + 1) read) (faulty_texts name (i + 1 + 1) (drop (i + 1) reads)) ∙ ap (λ l. out ++ faulty_texts name (i + 1) l) (sym rest)
