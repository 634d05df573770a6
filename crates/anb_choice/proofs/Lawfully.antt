-- A text that tells a choice without a fault tells a lawful one, and each text tells one or is refused.
use Rattle.std.proofs.Common.{◌≡◌, ℕ, suc, ◌+◌, List, [], ◌∷◌, ◌++◌, length, map, take, Bool, true, false, Option, Some, None, Result, Ok, Err, refl, sym, subst, inl, inr, ◌⊎◌, arith, append_assoc}
use Rattle.std.specs.Prelude.{not, slice_get}
use Rattle.std.specs.Option.{option_map, option_or}
use Rattle.std.specs.List.{AllByRecursion, AllZip}
use Rattle.std.proofs.lemmas.List.{append-nil, length-map}
use Rattle.std.proofs.lemmas.Slice.Zip.{AllZip-long}
use Rattle.anb_lemmas.proofs.Each.{zip_and_last}
use Rattle.anb_lemmas.proofs.Options.{none_mapped, or_is_none}
use Rattle.anb_index.specs.Places.{among}
use Rattle.anb_base.specs.declared.TheConstants.{ARRIVAL, WIDE}
use Rattle.anb_syntax.specs.Grammar.{Narration}
use Rattle.anb_syntax.specs.Lexing.{Lexes}
use Rattle.anb_syntax.specs.Laws.{TokensAreUnique}
use Rattle.anb_syntax.specs.Text.{Text}
use Rattle.anb_syntax.specs.Words.{Tok}
use Rattle.anb_read.specs.Laws.{EachIsEither as EachTextIsEither, NarrationsAreUnique}
use Rattle.anb_read.specs.Refusals as read
use Rattle.anb_read.specs.declared.refusal.ReadNo.{ReadNo}
use Rattle.anb_protocol.specs.declared.refusals.ResolveNo.{ResolveNo}
use Rattle.anb_protocol.specs.Checks.{fault}
use Rattle.anb_protocol.specs.Choices.{refuse_if}
use Rattle.anb_protocol.specs.Protocols.{ProtocolValue, protocol_of}
use Rattle.anb_choice.specs.declared.marks.Mark.{Mark}
use Rattle.anb_choice.specs.declared.order.Span.{Span}
use Rattle.anb_outcomes.specs.declared.choices.BranchNo.{BranchNo}
use Rattle.anb_outcomes.specs.declared.choices.BranchNo.TheVariants.{ArmRead, ArmResolve, Chooser, Roles, Shape, Token}
use Rattle.anb_choice.specs.Branching.{ArmIsRefused, BranchedText, FirstRefused, IsOrdered, IsRefusal, Tells, blind_refusal, choice_fault, other_roles, straights}
use Rattle.anb_choice.specs.Laws.{EachIsEither, FaultlessIsLawful}
use Rattle.anb_choice.specs.Lawful.{AreAlike, BranchedValue, IsLawful, IsLike, are_same_names, blind, roles_in}
use Rattle.anb_choice.specs.Order.{AreMarks, bad_at, chooser_in, looked, stem_actions, stem_end, straight}
use Rattle.anb_choice.specs.Parsing.{order}
use Rattle.anb_choice.proofs.Agreeing.{is_like}
use Rattle.anb_choice.proofs.Faults.{choice_refusal}
use Rattle.anb_choice.proofs.Names.{none_refused}
use Rattle.anb_choice.proofs.Misplaced.{misplaced_of}
use Rattle.anb_choice.proofs.Ordering.{has_order}
use Rattle.anb_choice.proofs.Straights.{stem_of, stem_text}

module _ (tokens : TokensAreUnique) (narrations : NarrationsAreUnique) where
  module _ (x : List ℕ) (ms : List Mark) (spans : List Span) (o : IsOrdered x ms spans) where
    -- the arms' narrations begin alike
    record HasStem (p : ProtocolValue) : Type 0 where
      narration : Narration
      is : p ≡ protocol_of narration
      stem : Text (stem_of narration (stem_actions ms)) (take (stem_end ms) x)

    has_stem : (i : ℕ) (s : Span) (p : ProtocolValue) → slice_get spans i ≡ Some s → Tells (straight x ms s) p → HasStem p
    has_stem i s p here t = record {
      narration = t.narration;
      is = t.is;
      stem = stem_text tokens x o.marks.tokens o.marks.lexes ms o.marks.are spans o.order i s here t.narration t.is_text;
    }

    like : (p q : ProtocolValue) → HasStem p → HasStem q → are_same_names p.roles q.roles ≡ true → IsLike (stem_actions ms) p q
    unfolding protocol_of
    like p q a b names =
        let same = narrations (take (stem_end ms) x) (stem_of a.narration (stem_actions ms)) (stem_of b.narration (stem_actions ms)) a.stem b.stem in
        let P : ProtocolValue → Type 0 = λ r. are_same_names r.roles q.roles ≡ true in
        let Q : ProtocolValue → Type 0 = λ r. are_same_names (protocol_of a.narration).roles r.roles ≡ true in
        let made = is_like_named a.narration b.narration same (subst Q b.is (subst P a.is names)) in
        subst (λ r. IsLike (stem_actions ms) r q) (sym a.is) (subst (λ r. IsLike (stem_actions ms) (protocol_of a.narration) r) (sym b.is) made) where
          is_like_named : (n m : Narration) → stem_of n (stem_actions ms) ≡ stem_of m (stem_actions ms) → are_same_names (protocol_of n).roles (protocol_of m).roles ≡ true → IsLike (stem_actions ms) (protocol_of n) (protocol_of m)
          is_like_named n m same also = is_like n m (stem_actions ms) same also

    abbrev Within : List Span → Type 0
    Within ss = (j : ℕ) (s : Span) → slice_get ss j ≡ Some s → (i : ℕ) × (slice_get spans i ≡ Some s)

    like_all : (p : ProtocolValue) → HasStem p → (ss : List Span) (ps : List ProtocolValue) → Within ss → AllZip Tells (map (straight x ms) ss) ps
        → AllByRecursion (λ (q : ProtocolValue). are_same_names p.roles q.roles ≡ true) ps → AllByRecursion (IsLike (stem_actions ms) p) ps
    like_all p a [] [] within told same = tt
    like_all p a [] (q ∷ ps) within told same = absurd told
    like_all p a (s ∷ ss) [] within told same = absurd told
    like_all p a (s ∷ ss) (q ∷ ps) within told same =
        let (i, here) = within 0 s refl in
        (like p q a (has_stem i s q here told.0) same.0, like_all p a ss ps (λ j v e. within (suc j) v e) told.1 same.1)

    alike : (ss : List Span) (ps : List ProtocolValue) → Within ss → AllZip Tells (map (straight x ms) ss) ps
        → AllByRecursion (λ (q : ProtocolValue). are_same_names (roles_in (record { chooser = []; stem = 0; arms = ps })) q.roles ≡ true) ps → AreAlike (stem_actions ms) ps
    alike ss [] within told same = tt
    alike [] (p ∷ ps) within told same = absurd told
    alike (s ∷ ss) (p ∷ ps) within told same =
        let (i, here) = within 0 s refl in
        like_all p (has_stem i s p here told.0) ss ps (λ j v e. within (suc j) v e) told.1 same.1

  not_false : (b : Bool) → refuse_if (not b) Chooser ≡ None → b ≡ true
  not_false true e = refl
  not_false false e = cc

  pub lawful_of : FaultlessIsLawful
  lawful_of x b text none =
      let one = or_is_none (option_map Roles (other_roles b)) (option_or (refuse_if (not (among (roles_in b) b.chooser)) Chooser) (option_map blind_refusal (blind b))) none in
      let two = or_is_none (refuse_if (not (among (roles_in b) b.chooser)) Chooser) (option_map blind_refusal (blind b)) one.1 in
      let names = none_refused (λ (p : ProtocolValue). are_same_names (roles_in b) p.roles) (λ (us : List ProtocolValue). length us + 1) [] b.arms (none_mapped Roles (other_roles b) one.0) in
      let count = AllZip-long Tells (straights x text.marks text.spans) b.arms text.arms in
      let long = length-map text.spans (straight x text.marks) in
      let few = text.ordered.order.few in
      let most = text.ordered.order.most in
      record {
        few = omega (arith, count, long, few);
        most = omega (arith, count, long, most);
        alike = subst (λ k. AreAlike k b.arms) (sym text.stem) (alike x text.marks text.spans text.ordered text.spans b.arms (λ j s e. (j, e)) text.arms names);
        chooser = not_false (among (roles_in b) b.chooser) two.0;
        seeing = none_mapped blind_refusal (blind b) two.1;
      }

-- ---- each text

module _ (reads : EachTextIsEither) where
  -- each text has tokens
  tokens_of : (x : List ℕ) → (ts : List Tok) × Lexes 0 x ts
  tokens_of x = by (reads x) where
    by : ((n : Narration) × Text n x) ⊎ ((why : ReadNo) × read.IsRefusal x why) → (ts : List Tok) × Lexes 0 x ts
    by (inl (n, t)) = (t.tokens, t.lexes)
    by (inr (why, r)) = (r.cause.tokens, r.cause.lexes)

  -- the text of an arm is told, or refused
  one_told : (text : List ℕ) → ((p : ProtocolValue) × Tells text p)
      ⊎ (((why : ReadNo) × read.IsRefusal text why) ⊎ ((why : ResolveNo) × ((n : Narration) × Text n text × (fault ARRIVAL WIDE n ≡ Some why))))
  one_told text = by (reads text) where
    resolves : (n : Narration) → Text n text → (o : Option ResolveNo) → fault ARRIVAL WIDE n ≡ o → ((p : ProtocolValue) × Tells text p)
        ⊎ (((why : ReadNo) × read.IsRefusal text why) ⊎ ((why : ResolveNo) × ((m : Narration) × Text m text × (fault ARRIVAL WIDE m ≡ Some why))))
    resolves n t None e = inl (protocol_of n, record { narration = n; is_text = t; well_formed = e; is = refl })
    resolves n t (Some why) e = inr (inr (why, (n, t, e)))

    by : ((n : Narration) × Text n text) ⊎ ((why : ReadNo) × read.IsRefusal text why) → ((p : ProtocolValue) × Tells text p)
        ⊎ (((why : ReadNo) × read.IsRefusal text why) ⊎ ((why : ResolveNo) × ((n : Narration) × Text n text × (fault ARRIVAL WIDE n ≡ Some why))))
    by (inl (n, t)) = resolves n t (fault ARRIVAL WIDE n) refl
    by (inr refused) = inr (inl refused)

  abbrev ArmsTold : List (List ℕ) → Type 0
  ArmsTold texts = ((ps : List ProtocolValue) × AllZip Tells texts ps) ⊎ ((why : BranchNo) × ArmIsRefused texts why × ((x : List ℕ) (ms : List Mark) (spans : List Span) → texts ≡ straights x ms spans → IsOrdered x ms spans → IsRefusal x why))

  first_one : (front : List (List ℕ)) (text : List ℕ) (back : List (List ℕ)) (ps : List ProtocolValue) (Refused : List ℕ → Type 0) → AllZip Tells front ps → Refused text → FirstRefused (front ++ text ∷ back) (length front + 1) Refused
  first_one front text back ps Refused told refused = record { before = front; text = text; others = back; are = refl; is = refl; arms = ps; told = told; refused = refused }

  arms_told : (front : List (List ℕ)) (ps : List ProtocolValue) (texts : List (List ℕ)) → AllZip Tells front ps → ArmsTold (front ++ texts)
  arms_told front ps [] told = inl (ps, subst (λ l. AllZip Tells l ps) (sym (append-nil front)) told)
  arms_told front ps (text ∷ texts) told = by (one_told text) (λ p t. subst ArmsTold (append_assoc front (text ∷ []) texts) (arms_told (front ++ text ∷ []) (ps ++ p ∷ []) texts (zip_and_last Tells front ps text p told t))) where
    by : ((p : ProtocolValue) × Tells text p) ⊎ (((why : ReadNo) × read.IsRefusal text why) ⊎ ((why : ResolveNo) × ((n : Narration) × Text n text × (fault ARRIVAL WIDE n ≡ Some why))))
        → ((p : ProtocolValue) → Tells text p → ArmsTold (front ++ text ∷ texts)) → ArmsTold (front ++ text ∷ texts)
    by (inl (p, t)) later = later p t
    by (inr (inl (why, r))) later =
        let f = first_one front text texts ps (λ z. read.IsRefusal z why) told r in
        inr (ArmRead (length front + 1) why, f, λ x ms spans e o. (ms, spans, o, subst (λ l. ArmIsRefused l (ArmRead (length front + 1) why)) e f))
    by (inr (inr (why, r))) later =
        let f = first_one front text texts ps (λ z. (n : Narration) × Text n z × (fault ARRIVAL WIDE n ≡ Some why)) told r in
        inr (ArmResolve (length front + 1) why, f, λ x ms spans e o. (ms, spans, o, subst (λ l. ArmIsRefused l (ArmResolve (length front + 1) why)) e f))

  module _ (lawful : FaultlessIsLawful) (x : List ℕ) where
    abbrev Either : Type 0
    Either = ((b : BranchedValue) × BranchedText x b × IsLawful b) ⊎ ((why : BranchNo) × IsRefusal x why)

    by_fault : (b : BranchedValue) → BranchedText x b → (o : Option BranchNo) → choice_fault b ≡ o → Either
    by_fault b text None e = inl (b, text, lawful x b text e)
    by_fault b text (Some why) e = inr (why, choice_refusal x b why text e)

    by_arms : (ms : List Mark) (spans : List Span) → IsOrdered x ms spans → ArmsTold (straights x ms spans) → Either
    by_arms ms spans o (inl (ps, told)) =
        let b : BranchedValue = record { chooser = chooser_in x ms; stem = stem_actions ms; arms = ps } in
        by_fault b (record { marks = ms; spans = spans; ordered = o; chooser = refl; stem = refl; arms = told }) (choice_fault b) refl
    by_arms ms spans o (inr (why, refused, is)) = inr (why, is x ms spans refl o)

    by_order : (ms : List Mark) → AreMarks x ms → bad_at ms ≡ None → (r : Result (List Span) ℕ) → order ms ≡ r → Either
    by_order ms marks none (Err at) e = inr (Shape at, (ms, marks, none, misplaced_of x ms at marks none e))
    by_order ms marks none (Ok spans) e = by_arms ms spans (record { marks = marks; tokens = none; order = has_order x ms spans marks e }) (arms_told [] [] (straights x ms spans) tt)

    by_bad : (ms : List Mark) → AreMarks x ms → (o : Option ℕ) → bad_at ms ≡ o → Either
    by_bad ms marks (Some at) e = inr (Token at, (ms, marks, e))
    by_bad ms marks None e = by_order ms marks e (order ms) refl

    either : Either
    either = let (ts, lexes) = tokens_of x in by_bad (looked x ts) (record { tokens = ts; lexes = lexes; are = refl }) (bad_at (looked x ts)) refl

  pub either_of : FaultlessIsLawful → EachIsEither
  either_of lawful x = either lawful x
