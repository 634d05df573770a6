-- A text is one role file at most, or has one first faulty line.
use Rattle.std.proofs.Common.{◌≡◌, ◌+◌, ℕ, List, [], ◌∷◌, ◌++◌, length, sym, ap, subst, ◌∙◌, append_assoc, arith}
use Rattle.std.proofs.lemmas.List.{append-nil, length-append}
use Rattle.anb_text.specs.declared.lines.Line.{Line}
use Rattle.anb_text.specs.Lines.{line_bytes}
use Rattle.anb_text.specs.RoleFiles.{IsRoleFile, ended, lines_text}
use Rattle.anb_text.specs.Refusals.{Begins, IsFirstFaulty}
use Rattle.anb_text.specs.Laws.{FilesAreUnique, NoneIsBoth, FaultsAreUnique}
use Rattle.anb_text.proofs.Texts.{Compared, same, longer, shorter, compared}
use Rattle.anb_text.proofs.StageLemmas.{beginning_is, one_code, role_file_is}

not_empty : (l : Line) (ls : List Line) (r : List ℕ) → [] ≡ lines_text (l ∷ ls) ++ r → ⊥
not_empty l ls r e =
    let size = ap length e in
    omega (arith, size, length-append (lines_text (l ∷ ls)) r, length-append (ended l) (lines_text ls), length-append (line_bytes l) (10 ∷ []))

begins_so : (lines xs more : List Line) (next : Line) → lines ≡ xs ++ next ∷ more → Begins lines → Begins (xs ++ next ∷ [])
begins_so lines xs more next e b =
    (more ++ b.0, subst IsRoleFile (ap (λ ls. ls ++ b.0) e ∙ append_assoc xs (next ∷ more) b.0 ∙ sym (append_assoc xs (next ∷ []) (more ++ b.0))) b.1)

-- no text goes on from a faulty line to lines with which a role file begins
not_behind : (text : List ℕ) (n : ℕ) (fault : IsFirstFaulty text n) (lines more : List Line) (next : Line) (r : List ℕ) → lines ≡ fault.before ++ next ∷ more → fault.rest ≡ lines_text (next ∷ more) ++ r → Begins lines → ⊥
not_behind text n fault lines more next r e rest b =
    fault.stuck next (lines_text more ++ r) (rest ∙ append_assoc (ended next) (lines_text more) r) (begins_so lines fault.before more next e b)

whole : (lines : List Line) → IsRoleFile lines → Begins lines
whole lines file = ([], subst IsRoleFile (sym (append-nil lines)) file)

pub files : FilesAreUnique
files one other is also e = go (compared one other [] [] (role_file_is one is) (role_file_is other also) (ap (λ x. x ++ []) e)) where
  go : Compared one other [] [] → (one ≡ other) × (is.raw ≡ also.raw)
  go (same lines rest) = (lines, one_code one other lines is also)
  go (longer next more lines rest) = absurd (not_empty next more [] rest)
  go (shorter next more lines rest) = absurd (not_empty next more [] rest)

pub none : NoneIsBoth
none lines n file fault = go (compared lines fault.before [] fault.rest (role_file_is lines file) (beginning_is fault.before fault.begins) (append-nil (lines_text lines) ∙ fault.stands)) where
  go : Compared lines fault.before [] fault.rest → ⊥
  go (same is rest) = fault.unfinished (subst IsRoleFile is file) (sym rest)
  go (longer next more is rest) = not_behind (lines_text lines) n fault lines more next [] is rest (whole lines file)
  go (shorter next more is rest) = not_empty next more fault.rest rest

pub faults : FaultsAreUnique
faults text n m one other = go (compared one.before other.before one.rest other.rest (beginning_is one.before one.begins) (beginning_is other.before other.begins) (sym one.stands ∙ other.stands)) where
  go : Compared one.before other.before one.rest other.rest → n ≡ m
  go (same is rest) = one.number ∙ ap (λ ls. length ls + 1) is ∙ sym other.number
  go (longer next more is rest) = absurd (not_behind text m other one.before more next one.rest is rest one.begins)
  go (shorter next more is rest) = absurd (not_behind text n one other.before more next other.rest is rest other.begins)
