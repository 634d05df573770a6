-- A protocol has one text of what a role lacks at most.
use Rattle.std.proofs.Common.{◌≡◌, ℕ, List, [], ◌∷◌, Option, Some, refl, sym, ap, ◌∙◌, subst}
use Rattle.std.specs.Prelude.{slice_get}
use Rattle.std.specs.List.{AllZip}
use Rattle.anb_term.specs.Tree.{Tree}
use Rattle.anb_term.specs.View.{tree_of}
use Rattle.anb_protocol.specs.Plans.{PlanEvent, plan_of}
use Rattle.anb_protocol.specs.Protocols.{ProtocolValue}
use Rattle.anb_reason.specs.declared.reasons.Refusal.{Refusal}
use Rattle.anb_lack.proofs.Sends.{same_before}
use Rattle.anb_reason.proofs.Unique.{first_of, same_message, same_terms}
use Rattle.anb_command.proofs.Senders.{first_one, none_unsent}
use Rattle.anb_lack.specs.declared.origins.Origin.{Origin}
use Rattle.anb_lack.specs.Lacking.{IsLackText, lists_text, refused_text}
use Rattle.anb_lack.specs.Origins.{IsListedFrom}
use Rattle.anb_lack.proofs.Having.{listed_one}
use Rattle.anb_mistakes.specs.Laws.{UnsentTextsAreUnique}
use Rattle.anb_mistakes.specs.Unsent.{IsUnsentText}
use Rattle.anb_check_commands.specs.Laws.{LackIsSaidOnce, LackTextsAreOne, SendableLacksNothing}

-- what a relation gives for each is one, where it gives one at most
zip_one : {A B : Type 0} (R : A → B → Type 0) → ((x : A) (y z : B) → R x y → R x z → y ≡ z) → (xs : List A) (ys zs : List B) → AllZip R xs ys → AllZip R xs zs → ys ≡ zs
zip_one R one [] [] [] a b = refl
zip_one R one [] [] (z ∷ zs) a b = absurd b
zip_one R one [] (y ∷ ys) zs a b = absurd a
zip_one R one (x ∷ xs) [] zs a b = absurd a
zip_one R one (x ∷ xs) (y ∷ ys) [] a b = absurd b
zip_one R one (x ∷ xs) (y ∷ ys) (z ∷ zs) a b = ap (λ w. w ∷ ys) (one x y z a.0 b.0) ∙ ap (λ l. z ∷ l) (zip_one R one xs ys zs a.1 b.1)

one_some : (x y : List ℕ) (o : Option (List ℕ)) → o ≡ Some x → o ≡ Some y → x ≡ y
one_some x y o is js = let same : Some x ≡ Some y = sym is ∙ js in cc

module _ (p : ProtocolValue) (x xs y ys : List ℕ) (one : IsLackText p x xs) (two : IsLackText p y ys) where
  abbrev r : Refusal
  r = one.refusal

  abbrev s : Refusal
  s = two.refusal

  at : (r.action ≡ s.action) × (r.role ≡ s.role)
  at = first_one p r.role s.role r.action s.action (first_of p r one.reason) (first_of p s two.reason)

  message : tree_of r.term ≡ tree_of s.term
  message = same_message p r s one.reason two.reason at.0 at.1

  terms : r.terms ≡ s.terms
  terms = same_terms p r s one.reason two.reason at.0 at.1

  before : one.reason.unsent.before ≡ two.reason.unsent.before
  before = same_before p r s one.reason two.reason at.0 at.1

  sender : one.sender ≡ two.sender
  sender = one_some one.sender two.sender (slice_get p.roles s.role) (ap (slice_get p.roles) (sym at.1) ∙ one.is_sender) two.is_sender

  abbrev Listed : List Tree → ℕ → List PlanEvent → Tree → Origin → Type 0
  Listed S role events = IsListedFrom p S (plan_of p role) events

  mine : AllZip (Listed s.terms s.role two.reason.unsent.before) s.terms one.origins
  mine =
      subst (λ es. AllZip (Listed s.terms s.role es) s.terms one.origins) before
      (subst (λ ts. AllZip (Listed ts s.role one.reason.unsent.before) ts one.origins) terms
      (subst (λ (n : ℕ). AllZip (Listed r.terms n one.reason.unsent.before) r.terms one.origins) at.1 one.are_origins))

  origins : one.origins ≡ two.origins
  origins = zip_one (Listed s.terms s.role two.reason.unsent.before) (λ t. listed_one p s.terms (plan_of p s.role) two.reason.unsent.before t) s.terms one.origins two.origins mine two.are_origins

  line_one : x ≡ y
  line_one =
      let is_action : r.action ≡ s.action = at.0 in
      let is_message : tree_of r.term ≡ tree_of s.term = message in
      let is_sender : one.sender ≡ two.sender = sender in
      let same : refused_text p one.sender r ≡ refused_text p two.sender s = cc in
      one.line_is ∙ same ∙ sym two.line_is

  lists_one : xs ≡ ys
  lists_one =
      let is_message : tree_of r.term ≡ tree_of s.term = message in
      let are_terms : r.terms ≡ s.terms = terms in
      let is_before : one.reason.unsent.before ≡ two.reason.unsent.before = before in
      let is_sender : one.sender ≡ two.sender = sender in
      let are_origins : one.origins ≡ two.origins = origins in
      let same : lists_text p one.sender r one.reason.unsent.before one.origins ≡ lists_text p two.sender s two.reason.unsent.before two.origins = cc in
      one.lists_are ∙ same ∙ sym two.lists_are

pub one_text : LackTextsAreOne
one_text p x xs y ys one two = (line_one p x xs y ys one two, lists_one p x xs y ys one two)

pub said_once : UnsentTextsAreUnique → LackIsSaidOnce
said_once unique name x p action said other (line, lists, one, is) (line', lists', two, js) =
    let same = one_text p line lists line' lists' one two in
    unique name x action line' lists' said other (subst (λ l. IsUnsentText name x action line' l said) same.1 (subst (λ l. IsUnsentText name x action l lists said) same.0 is)) js

pub none_where_sendable : SendableLacksNothing
none_where_sendable p x xs sendable is =
    let r = is.refusal in
    none_unsent p r.role r.action (sendable r.role is.reason.role) is.reason.unsent
