-- A text tells one choice, or has one refusal.
use Rattle.std.proofs.Common.{◌≡◌, ◌⊎◌, inl, inr, ℕ, ◌+◌, List, [], ◌∷◌, ◌++◌, length, map, Option, Some, None, Result, Ok, Err, refl, sym, ap, subst, ◌∙◌}
use Rattle.std.specs.Option.{option_map, option_or}
use Rattle.std.specs.List.{AllZip}
use Rattle.std.proofs.lemmas.Option.{same_Some}
use Rattle.anb_base.specs.declared.TheConstants.{ARRIVAL, WIDE}
use Rattle.anb_syntax.specs.Laws.{TokensAreUnique}
use Rattle.anb_read.specs.Laws as read
use Rattle.anb_protocol.specs.Checks.{fault}
use Rattle.anb_protocol.specs.Protocols.{ProtocolValue, protocol_of}
use Rattle.anb_choice.specs.declared.marks.Mark.{Mark}
use Rattle.anb_choice.specs.declared.order.Span.{Span}
use Rattle.anb_outcomes.specs.declared.choices.BranchNo.{BranchNo}
use Rattle.anb_outcomes.specs.declared.choices.BranchNo.TheVariants.{Token, Shape, ArmRead, ArmResolve, Roles, Chooser, Blind, NoMemory}
use Rattle.anb_choice.specs.Branching.{AreArmTexts, ArmIsRefused, BranchedText, FirstRefused, HasArms, IsOrdered, IsRefusal, IsUntold, Tells, choice_fault, straights}
use Rattle.anb_choice.specs.ArmRefusals.{IsRefusedAs}
use Rattle.anb_choice.specs.Lawful.{BranchedValue}
use Rattle.anb_choice.specs.Order.{AreMarks, bad_at, chooser_in, in_place, looked, stem_actions}
use Rattle.anb_choice.specs.Parsing.{order}
use Rattle.anb_choice.proofs.Misplaced.{order_err}
use Rattle.anb_choice.proofs.Ordering.{order_there}

abbrev found : List Span → Result (List Span) ℕ
found s = Ok s

ok_one : (s t : List Span) → found s ≡ found t → s ≡ t
ok_one s t e = cc

abbrev value : List ℕ → ℕ → List ProtocolValue → BranchedValue
value c m ps = record { chooser = c; stem = m; arms = ps }

-- the parts of a choice are its value
value_one : (c d : List ℕ) (m n : ℕ) (ps qs : List ProtocolValue) → c ≡ d → m ≡ n → ps ≡ qs → value c m ps ≡ value d n qs
value_one c d m n ps qs e f g = ap (λ z. value z m ps) e ∙ ap (λ z. value d z ps) f ∙ ap (λ z. value d n z) g

-- ---- a refusal by how far the text was looked at

abbrev shape_of : Result (List Span) ℕ → Option BranchNo
shape_of (Ok spans) = None
shape_of (Err at) = Some (Shape at)

abbrev head_fault : List Mark → Option BranchNo
head_fault ms = option_or (option_map Token (bad_at ms)) (shape_of (order ms))

head_of : (o : Option ℕ) (r : Result (List Span) ℕ) (ms : List Mark) → bad_at ms ≡ o → order ms ≡ r → head_fault ms ≡ option_or (option_map Token o) (shape_of r)
head_of o r ms e f = ap (λ z. option_or (option_map Token z) (shape_of (order ms))) e ∙ ap (λ z. option_or (option_map Token o) (shape_of z)) f

ordered_none : (x : List ℕ) (ms : List Mark) (spans : List Span) → IsOrdered x ms spans → head_fault ms ≡ None
ordered_none x ms spans o = head_of None (Ok spans) ms o.tokens (order_there ms spans o.order)

-- the arms were told, and these are they
abbrev Behind : List ℕ → List Mark → List Span → BranchNo → Type 0
Behind x ms spans why = ArmIsRefused (straights x ms spans) why ⊎ ((b : BranchedValue) × (AllZip Tells (straights x ms spans) b.arms × BranchedText x b) × (choice_fault b ≡ Some why))

abbrev Form : List ℕ → BranchNo → Type 0
Form x why =
    ((ms : List Mark) × AreMarks x ms × (head_fault ms ≡ Some why))
    ⊎ ((ms : List Mark) × (spans : List Span) × IsOrdered x ms spans × Behind x ms spans why)

of_choice : (x : List ℕ) (why : BranchNo) → (b : BranchedValue) × BranchedText x b × (choice_fault b ≡ Some why) → Form x why
of_choice x why r = inr (r.1.marks, r.1.spans, r.1.ordered, inr (r.0, (r.1.arms, r.1), r.2))

form : (x : List ℕ) (why : BranchNo) → IsRefusal x why → Form x why
form x (Token at) r = inl (r.0, r.1, ap (λ z. option_or (option_map Token z) (shape_of (order r.0))) r.2)
form x (Shape at) r = inl (r.0, r.1, head_of None (Err at) r.0 r.2 (order_err x r.0 at r.1 r.2 r.3))
form x (ArmRead arm why) r = inr (r.0, r.1, r.2, inl r.3)
form x (ArmResolve arm why) r = inr (r.0, r.1, r.2, inl r.3)
form x (Roles arm) r = of_choice x (Roles arm) r
form x Chooser r = of_choice x Chooser r
form x (Blind role arm) r = of_choice x (Blind role arm) r
form x NoMemory r = absurd r

module _ (tokens : TokensAreUnique) (narrations : read.NarrationsAreUnique) where
  marks_one : (x : List ℕ) (ms ns : List Mark) → AreMarks x ms → AreMarks x ns → ms ≡ ns
  marks_one x ms ns a b = a.are ∙ ap (looked x) (tokens x a.tokens b.tokens a.lexes b.lexes) ∙ sym b.are

  spans_one : (x : List ℕ) (ms ns : List Mark) (s t : List Span) → IsOrdered x ms s → IsOrdered x ns t → (ms ≡ ns) × (s ≡ t)
  spans_one x ms ns s t a b = let m = marks_one x ms ns a.marks b.marks in (m, ok_one s t (sym (order_there ms s a.order) ∙ ap order m ∙ order_there ns t b.order))

  straights_one : (x : List ℕ) (ms ns : List Mark) (s t : List Span) → IsOrdered x ms s → IsOrdered x ns t → straights x ms s ≡ straights x ns t
  straights_one x ms ns s t a b = let r = spans_one x ms ns s t a b in ap (λ z. straights x z s) r.0 ∙ ap (straights x ns) r.1

  pub arm_texts_one : (x : List ℕ) (texts others : List (List ℕ)) → AreArmTexts x texts → AreArmTexts x others → texts ≡ others
  arm_texts_one x texts others a b =
      let r = spans_one x a.0 b.0 a.1 b.1 a.2 b.2 in a.3 ∙ ap (λ (ms : List Mark). map (in_place x ms) a.1) r.0 ∙ ap (map (in_place x b.0)) r.1 ∙ sym b.3

  -- a text that is in order, by its tokens
  pub ordered_here : (x : List ℕ) (ms : List Mark) → HasArms x → AreMarks x ms → (spans : List Span) × IsOrdered x ms spans
  ordered_here x ms has are = (has.1, subst (λ (ns : List Mark). IsOrdered x ns has.1) (marks_one x has.0 ms has.2.marks are) has.2)

  pub ordered_as : (x : List ℕ) (ms : List Mark) (spans : List Span) → HasArms x → AreMarks x ms → order ms ≡ Ok spans → IsOrdered x ms spans
  ordered_as x ms spans has are e =
      let o = ordered_here x ms has are in subst (λ (s : List Span). IsOrdered x ms s) (ok_one o.0 spans (sym (order_there ms o.0 o.1.order) ∙ e)) o.1

  pub ordered_not : (x : List ℕ) (ms : List Mark) (at : ℕ) → HasArms x → AreMarks x ms → order ms ≡ Err at → ⊥
  ordered_not x ms at has are e =
      let o = ordered_here x ms has are in let both = sym (order_there ms o.0 o.1.order) ∙ e in cc

  tells_one : (text : List ℕ) (p q : ProtocolValue) → Tells text p → Tells text q → p ≡ q
  tells_one text p q a b = a.is ∙ ap protocol_of (narrations text a.narration b.narration a.is_text b.is_text) ∙ sym b.is

  all_one : (texts : List (List ℕ)) (ps qs : List ProtocolValue) → AllZip Tells texts ps → AllZip Tells texts qs → ps ≡ qs
  all_one [] [] [] a b = refl
  all_one [] [] (q ∷ qs) a b = absurd b
  all_one [] (p ∷ ps) qs a b = absurd a
  all_one (t ∷ ts) [] qs a b = absurd a
  all_one (t ∷ ts) (p ∷ ps) [] a b = absurd b
  all_one (t ∷ ts) (p ∷ ps) (q ∷ qs) a b = ap (λ r. r ∷ ps) (tells_one t p q a.0 b.0) ∙ ap (λ l. q ∷ l) (all_one ts ps qs a.1 b.1)

  pub choice_one : (x : List ℕ) (b c : BranchedValue) → BranchedText x b → BranchedText x c → b ≡ c
  choice_one x b c one other =
      let r = spans_one x one.marks other.marks one.spans other.spans one.ordered other.ordered in
      let texts = straights_one x one.marks other.marks one.spans other.spans one.ordered other.ordered in
      value_one b.chooser c.chooser b.stem c.stem b.arms c.arms
      (one.chooser ∙ ap (chooser_in x) r.0 ∙ sym other.chooser)
      (one.stem ∙ ap stem_actions r.0 ∙ sym other.stem)
      (all_one (straights x other.marks other.spans) b.arms c.arms (subst (λ l. AllZip Tells l b.arms) texts one.arms) other.arms)

  module _ (never : read.NoneIsBoth) where
    -- a text that tells a protocol isn't refused
    not_both : (text : List ℕ) (number : ℕ) (why : BranchNo) (p : ProtocolValue) → IsRefusedAs text number why → Tells text p → ⊥
    not_both text number (Token at) p refused t = absurd refused
    not_both text number (Shape at) p refused t = absurd refused
    not_both text number (ArmRead arm r) p refused t = never text t.narration r t.is_text refused.1
    not_both text number (ArmResolve arm r) p refused t =
        let same = narrations text t.narration refused.1.0 t.is_text refused.1.1 in
        let none = sym t.well_formed ∙ ap (fault ARRIVAL WIDE) same ∙ refused.1.2 in
        cc
    not_both text number (Roles arm) p refused t = absurd refused
    not_both text number Chooser p refused t = absurd refused
    not_both text number (Blind role arm) p refused t = absurd refused
    not_both text number NoMemory p refused t = absurd refused

    -- an arm that is refused, as it is refused
    as_first : (texts : List (List ℕ)) (why : BranchNo) → ArmIsRefused texts why → (number : ℕ) × FirstRefused texts number (λ text. IsRefusedAs text number why)
    as_first texts (Token at) f = absurd f
    as_first texts (Shape at) f = absurd f
    as_first texts (ArmRead arm r) f = (arm, record { before = f.before; text = f.text; others = f.others; are = f.are; is = f.is; arms = f.arms; told = f.told; refused = (refl, f.refused) })
    as_first texts (ArmResolve arm r) f = (arm, record { before = f.before; text = f.text; others = f.others; are = f.are; is = f.is; arms = f.arms; told = f.told; refused = (refl, f.refused) })
    as_first texts (Roles arm) f = absurd f
    as_first texts Chooser f = absurd f
    as_first texts (Blind role arm) f = absurd f
    as_first texts NoMemory f = absurd f

    told_at : (before : List (List ℕ)) (text : List ℕ) (others : List (List ℕ)) (ps : List ProtocolValue) → AllZip Tells (before ++ text ∷ others) ps → (p : ProtocolValue) × Tells text p
    told_at [] text others [] told = absurd told
    told_at [] text others (p ∷ ps) told = (p, told.0)
    told_at (t ∷ before) text others [] told = absurd told
    told_at (t ∷ before) text others (p ∷ ps) told = told_at before text others ps told.1

    -- where all arms are told, none is refused
    none_refused : (texts : List (List ℕ)) (ps : List ProtocolValue) (why : BranchNo) → AllZip Tells texts ps → ArmIsRefused texts why → ⊥
    none_refused texts ps why told f =
        let r = as_first texts why f in
        let t = told_at r.1.before r.1.text r.1.others ps (subst (λ l. AllZip Tells l ps) r.1.are told) in
        not_both r.1.text r.0 why t.0 r.1.refused t.1

    -- the first text that tells nothing is one
    first_one : (before after : List (List ℕ)) (text other : List ℕ) (us vs : List (List ℕ)) (ps qs : List ProtocolValue) → before ++ text ∷ us ≡ after ++ other ∷ vs
        → AllZip Tells before ps → AllZip Tells after qs → ((p : ProtocolValue) → Tells text p → ⊥) → ((p : ProtocolValue) → Tells other p → ⊥) → (before ≡ after) × (text ≡ other)
    first_one [] [] text other us vs ps qs e a b no1 no2 = (refl, cc)
    first_one [] (u ∷ after) text other us vs ps [] e a b no1 no2 = absurd b
    first_one [] (u ∷ after) text other us vs ps (q ∷ qs) e a b no1 no2 = let same : u ≡ text = cc in absurd (no1 q (subst (λ t. Tells t q) same b.0))
    first_one (u ∷ before) [] text other us vs [] qs e a b no1 no2 = absurd a
    first_one (u ∷ before) [] text other us vs (p ∷ ps) qs e a b no1 no2 = let same : u ≡ other = cc in absurd (no2 p (subst (λ t. Tells t p) same a.0))
    first_one (u ∷ before) (v ∷ after) text other us vs [] qs e a b no1 no2 = absurd a
    first_one (u ∷ before) (v ∷ after) text other us vs (p ∷ ps) [] e a b no1 no2 = absurd b
    first_one (u ∷ before) (v ∷ after) text other us vs (p ∷ ps) (q ∷ qs) e a b no1 no2 =
        let rest : before ++ text ∷ us ≡ after ++ other ∷ vs = cc in
        let same : u ≡ v = cc in
        let r = first_one before after text other us vs ps qs rest a.1 b.1 no1 no2 in
        (ap (λ z. z ∷ before) same ∙ ap (λ l. v ∷ l) r.0, r.1)

    -- no choice that is lawful is refused
    pub choice_unrefused : (x : List ℕ) (b : BranchedValue) (why : BranchNo) → BranchedText x b → choice_fault b ≡ None → IsRefusal x why → ⊥
    choice_unrefused x b why text fine r = by_form (form x why r) where
      by_form : Form x why → ⊥
      by_form (inl a) = let e = sym a.2 ∙ ap head_fault (marks_one x a.0 text.marks a.1 text.ordered.marks) ∙ ordered_none x text.marks text.spans text.ordered in cc
      by_form (inr a) = behind (straights_one x a.0 text.marks a.1 text.spans a.2 text.ordered) a.3 where
        behind : straights x a.0 a.1 ≡ straights x text.marks text.spans → Behind x a.0 a.1 why → ⊥
        behind same (inl f) = none_refused (straights x text.marks text.spans) b.arms why text.arms (subst (λ l. ArmIsRefused l why) same f)
        behind same (inr f) = let e = sym f.2 ∙ ap choice_fault (choice_one x f.0 b f.1.1 text) ∙ fine in cc

    -- no choice is refused as none
    pub choice_untold : (x : List ℕ) (b : BranchedValue) (no : BranchNo) → BranchedText x b → IsUntold x no → ⊥
    choice_untold x b (Token at) text r = let e = sym r.2 ∙ ap bad_at (marks_one x r.0 text.marks r.1 text.ordered.marks) ∙ text.ordered.tokens in cc
    choice_untold x b (Shape at) text r =
        let e = sym (order_err x r.0 at r.1 r.2 r.3) ∙ ap order (marks_one x r.0 text.marks r.1 text.ordered.marks) ∙ order_there text.marks text.spans text.ordered.order in cc
    choice_untold x b (ArmRead arm why) text r =
        none_refused (straights x text.marks text.spans) b.arms (ArmRead arm why) text.arms
        (subst (λ l. ArmIsRefused l (ArmRead arm why)) (straights_one x r.0 text.marks r.1 text.spans r.2 text.ordered) r.3)
    choice_untold x b (ArmResolve arm why) text r =
        none_refused (straights x text.marks text.spans) b.arms (ArmResolve arm why) text.arms
        (subst (λ l. ArmIsRefused l (ArmResolve arm why)) (straights_one x r.0 text.marks r.1 text.spans r.2 text.ordered) r.3)
    choice_untold x b (Roles arm) text r = absurd r
    choice_untold x b Chooser text r = absurd r
    choice_untold x b (Blind role arm) text r = absurd r
    choice_untold x b NoMemory text r = absurd r

    module _ (refusals : read.RefusalsAreUnique) where
      refused_one : (text : List ℕ) (number : ℕ) (why other : BranchNo) → IsRefusedAs text number why → IsRefusedAs text number other → why ≡ other
      refused_one text number (Token at) other one two = absurd one
      refused_one text number (Shape at) other one two = absurd one
      refused_one text number (ArmRead arm r) (Token at2) one two = absurd two
      refused_one text number (ArmRead arm r) (Shape at2) one two = absurd two
      refused_one text number (ArmRead arm r) (ArmRead arm2 r2) one two = ap (λ k. ArmRead k r) (one.0 ∙ sym two.0) ∙ ap (ArmRead arm2) (refusals text r r2 one.1 two.1)
      refused_one text number (ArmRead arm r) (ArmResolve arm2 r2) one two = absurd (never text two.1.0 r two.1.1 one.1)
      refused_one text number (ArmRead arm r) (Roles arm2) one two = absurd two
      refused_one text number (ArmRead arm r) Chooser one two = absurd two
      refused_one text number (ArmRead arm r) (Blind role2 arm2) one two = absurd two
      refused_one text number (ArmRead arm r) NoMemory one two = absurd two
      refused_one text number (ArmResolve arm r) (Token at2) one two = absurd two
      refused_one text number (ArmResolve arm r) (Shape at2) one two = absurd two
      refused_one text number (ArmResolve arm r) (ArmRead arm2 r2) one two = absurd (never text one.1.0 r2 one.1.1 two.1)
      refused_one text number (ArmResolve arm r) (ArmResolve arm2 r2) one two =
          let same = narrations text one.1.0 two.1.0 one.1.1 two.1.1 in
          ap (λ k. ArmResolve k r) (one.0 ∙ sym two.0) ∙ ap (ArmResolve arm2) (same_Some r r2 (sym one.1.2 ∙ ap (fault ARRIVAL WIDE) same ∙ two.1.2))
      refused_one text number (ArmResolve arm r) (Roles arm2) one two = absurd two
      refused_one text number (ArmResolve arm r) Chooser one two = absurd two
      refused_one text number (ArmResolve arm r) (Blind role2 arm2) one two = absurd two
      refused_one text number (ArmResolve arm r) NoMemory one two = absurd two
      refused_one text number (Roles arm) other one two = absurd one
      refused_one text number Chooser other one two = absurd one
      refused_one text number (Blind role arm) other one two = absurd one
      refused_one text number NoMemory other one two = absurd one

      arm_one : (texts : List (List ℕ)) (why other : BranchNo) → ArmIsRefused texts why → ArmIsRefused texts other → why ≡ other
      arm_one texts why other f g =
          let a = as_first texts why f in
          let b = as_first texts other g in
          let r = first_one a.1.before b.1.before a.1.text b.1.text a.1.others b.1.others a.1.arms b.1.arms (sym a.1.are ∙ b.1.are) a.1.told b.1.told
          (λ p t. not_both a.1.text a.0 why p a.1.refused t) (λ p t. not_both b.1.text b.0 other p b.1.refused t) in
          let number : a.0 ≡ b.0 = a.1.is ∙ ap (λ l. length l + 1) r.0 ∙ sym b.1.is in
          refused_one b.1.text b.0 why other (subst (λ k. IsRefusedAs b.1.text k why) number (subst (λ t. IsRefusedAs t a.0 why) r.1 a.1.refused)) b.1.refused

      -- ---- all refusals

      pub refusal_one : (x : List ℕ) (why other : BranchNo) → IsRefusal x why → IsRefusal x other → why ≡ other
      refusal_one x why other one two = by_form (form x why one) (form x other two) where
        by_form : Form x why → Form x other → why ≡ other
        by_form (inl a) (inl b) = same_Some why other (sym a.2 ∙ ap head_fault (marks_one x a.0 b.0 a.1 b.1) ∙ b.2)
        by_form (inl a) (inr b) = let e = sym a.2 ∙ ap head_fault (marks_one x a.0 b.0 a.1 b.2.marks) ∙ ordered_none x b.0 b.1 b.2 in cc
        by_form (inr a) (inl b) = let e = sym b.2 ∙ ap head_fault (marks_one x b.0 a.0 b.1 a.2.marks) ∙ ordered_none x a.0 a.1 a.2 in cc
        by_form (inr a) (inr b) = behind (straights_one x a.0 b.0 a.1 b.1 a.2 b.2) a.3 b.3 where
          behind : straights x a.0 a.1 ≡ straights x b.0 b.1 → Behind x a.0 a.1 why → Behind x b.0 b.1 other → why ≡ other
          behind same (inl f) (inl g) = arm_one (straights x b.0 b.1) why other (subst (λ l. ArmIsRefused l why) same f) g
          behind same (inl f) (inr g) = absurd (none_refused (straights x b.0 b.1) g.0.arms why g.1.0 (subst (λ l. ArmIsRefused l why) same f))
          behind same (inr f) (inl g) = absurd (none_refused (straights x a.0 a.1) f.0.arms other f.1.0 (subst (λ l. ArmIsRefused l other) (sym same) g))
          behind same (inr f) (inr g) = same_Some why other (sym f.2 ∙ ap choice_fault (choice_one x f.0 g.0 f.1.1 g.1.1) ∙ g.2)
