-- What `values` writes for a role that is tried.
use Rattle.std.proofs.Common.{◌≡◌, ℕ, List, Option, Result, Ok, Err, IfOk, subst, sym, inl, inr}
use Rattle.anb_command.specs.Fetches.{Files, IfTold}
use Rattle.anb_command.specs.Files.{ProtocolInFile, ValuesInFile}
use Rattle.anb_command.specs.Roles.{Part, PartInFile, RoleIs}
use Rattle.anb_command.specs.Steps.{given}
use Rattle.anb_command.proofs.Ones.{same_given}
use Rattle.anb_command.proofs.Preparing.{told_both}
use Rattle.anb_protocol.specs.Texts.{known_names}
use Rattle.anb_values.specs.declared.fitted.Fitted.{Fitted}
use Rattle.anb_values_commands.specs.RoleValuesCommand.{OwnIs, RoleValuesText}

pub if_ok_both : {V E : Type 0} (r : Result V E) (P Q R : V → Type 0) → ((v : V) → P v → Q v → R v) → IfOk r P → IfOk r Q → IfOk r R
if_ok_both (Ok v) P Q R f p q = f v p q
if_ok_both (Err e) P Q R f p q = tt

module _ (narration role : List ℕ) (files : Files) where
  abbrev Named : Part → Type 0
  Named part = ProtocolInFile files narration (given part.protocol) × RoleIs part.protocol role (given part.role)

  -- a part is a role of the narration's protocol
  named_in : (part : Part) → PartInFile files narration role (given part) → Named part
  named_in part (inl (s, f, e)) = absurd (let never = e in cc)
  named_in part (inr (p, f, inl (s, n, e))) = absurd (let never = e in cc)
  named_in part (inr (p, f, inr (r, n, inl (s, sends, e)))) = absurd (let never = e in cc)
  named_in part (inr (p, f, inr (r, n, inr (u, sends, e)))) = subst Named (sym (same_given part (record { protocol = p; role = r }) e)) (f, n)

pub own_answers : (narration role values : List ℕ) (told : Option Files) (part other : Part) (fitted : Fitted) → IfTold told (λ files. PartInFile files narration role (given part)) → other ≡ part
    → IfTold told (λ files. ValuesInFile files values (known_names part.protocol) (given fitted))
    → IfTold told (λ files. (text : List ℕ) → OwnIs other.protocol other.role fitted (given text) → RoleValuesText files narration role values (given text))
own_answers narration role values told part other fitted first same fits = told_both told (λ files f v. λ text own.
    let named = named_in narration role files part f in
    inr (part.protocol, named.0, inr (part.role, named.1, inr (fitted, v, subst (λ (p : Part). OwnIs p.protocol p.role fitted (given text)) same own)))) first fits
