-- A text that is written part by part.
use Rattle.std.proofs.Common.{◌≡◌, ℕ, ◌+◌, ◌≤◌, List, [], ◌++◌, length, take, Option, Result, Ok, Err, refl, sym, ap, ◌∙◌, subst, append_assoc, arith, length-append}
use Rattle.std.proofs.Math.Seq.{take-append-add}
use Rattle.std.proofs.lemmas.List.{append-nil, take-append-le}
use Rattle.anb_base.specs.Moves.{Put}
use Rattle.anb_base.proofs.Joined.{Put-joined}
use Rattle.anb_base.proofs.Moving.{Rose-later, put_nothing}
use Rattle.anb_text.specs.declared.writing.WriteNo.{WriteNo}
use Rattle.anb_text.specs.Writing.{IsWritten}

-- of a text this is written, and this is due; no call failed
pub record Due (whole : List ℕ) (old now : Option (List ℕ)) (faults faults_now : ℕ) (due : List ℕ) : Type 0 where
  pub done : List ℕ
  pub put : Put old now done
  pub joined : done ++ due ≡ whole
  pub quiet : faults_now ≡ faults

module _ (whole : List ℕ) (a b c : Option (List ℕ)) (f g h : ℕ) (part rest : List ℕ) (due : Due whole a b f g (part ++ rest)) where
  -- a part more is written
  pub one_part : (r : Unit {0}) → IsWritten part (Ok r) b c g h → Due whole a c f h rest
  one_part r is = record {
    done = due.done ++ part;
    put = Put-joined a b c due.done part due.put is.whole;
    joined = append_assoc due.done part rest ∙ due.joined;
    quiet = is.quiet (λ failed. absurd (cc)) ∙ due.quiet;
  }

  front : (n : ℕ) → n ≤ length part → due.done ++ take n part ≡ take (length due.done + n) whole
  front n within =
      ap (λ t. due.done ++ t) (sym (take-append-le n part rest within)) ∙ sym (take-append-add due.done (part ++ rest) n) ∙ ap (take (length due.done + n)) due.joined

  -- or not all of it
  pub not_all : (why : WriteNo) → IsWritten part (Err why) b c g h → IsWritten whole (Err why) a c f h
  not_all why is =
      let n : ℕ = is.part.0 in
      let within : n ≤ length part = is.part.1 in
      let size = ap length due.joined in
      record {
        whole = tt;
        part = (
          length due.done + n,
          omega (arith, size, length-append due.done (part ++ rest), length-append part rest, within),
          subst (Put a c) (front n within) (Put-joined a b c due.done (take n part) due.put is.part.2),
        );
        cause = λ failed. Rose-later f g h (omega (arith, due.quiet)) (is.cause failed);
        quiet = λ other. is.quiet other ∙ due.quiet;
        never_falls = omega (arith, due.quiet, is.never_falls);
      }

-- all of it is
pub all_written : (whole : List ℕ) (a b : Option (List ℕ)) (f g : ℕ) (r : Unit {0}) → Due whole a b f g [] → IsWritten whole (Ok r) a b f g
all_written whole a b f g r due = record {
  whole = subst (Put a b) (sym (append-nil due.done) ∙ due.joined) due.put;
  part = tt;
  cause = tt;
  quiet = λ other. due.quiet;
  never_falls = omega (arith, due.quiet);
}

-- the last part is
pub last_part : (whole : List ℕ) (a b c : Option (List ℕ)) (f g h : ℕ) (part : List ℕ) → Due whole a b f g part → (r : Result (Unit {0}) WriteNo) → IsWritten part r b c g h → IsWritten whole r a c f h
last_part whole a b c f g h part due r is = by_result r is where
  due_all : Due whole a b f g (part ++ [])
  due_all = record { done = due.done; put = due.put; joined = ap (λ t. due.done ++ t) (append-nil part) ∙ due.joined; quiet = due.quiet }

  by_result : (r : Result (Unit {0}) WriteNo) → IsWritten part r b c g h → IsWritten whole r a c f h
  by_result (Ok u) is = all_written whole a c f h u (one_part whole a b c f g h part [] due_all u is)
  by_result (Err why) is = not_all whole a b c f g h part [] due_all why is

pub due_as : (whole text : List ℕ) (w : Option (List ℕ)) (f : ℕ) → whole ≡ text → Due whole w w f f text
due_as whole text w f is = record { done = []; put = put_nothing w; joined = sym is; quiet = refl }

pub same_due : (whole x y : List ℕ) (a b : Option (List ℕ)) (f g : ℕ) → x ≡ y → Due whole a b f g x → Due whole a b f g y
same_due whole x y a b f g is due = record { done = due.done; put = due.put; joined = ap (λ t. due.done ++ t) (sym is) ∙ due.joined; quiet = due.quiet }

pub same_written : (x y : List ℕ) (r : Result (Unit {0}) WriteNo) (a b : Option (List ℕ)) (f g : ℕ) → x ≡ y → IsWritten x r a b f g → IsWritten y r a b f g
same_written x y r a b f g is written = subst (λ t. IsWritten t r a b f g) is written
