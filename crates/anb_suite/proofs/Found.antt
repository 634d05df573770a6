-- A case, or that a check is implied, by the most general solution of a code less the check.
use Rattle.std.proofs.Common.{◌≡◌, ℕ, ◌+◌, ◌-◌, ◌≤◌, List, [], ◌∷◌, ◌++◌, length, map, take, drop, cond, Bool, Some, refl, sym, ap, ◌∙◌, subst, arith}
use Rattle.std.specs.Prelude.{slice_get, count_by}
use Rattle.std.proofs.lemmas.List.{length-map}
use Rattle.std.proofs.lemmas.List.Sums.{sum_by-cons}
use Rattle.anb_lemmas.proofs.Each.{each_as}
use Rattle.anb_format.specs.Formats.{FormatValue}
use Rattle.anb_term.specs.declared.term.Op.{Op}
use Rattle.anb_term.specs.Tree.{Tree, none, more, trees_of, IsFormed, AreFormed}
use Rattle.anb_term.specs.View.{tree_of}
use Rattle.anb_term.specs.FreeAlgebra.{terms_over}
use Rattle.anb_term.proofs.Lists.{map-append, map-take}
use Rattle.anb_algebra.specs.ByteMeaning.{has_operator}
use Rattle.anb_plays.specs.Plans.{Event, known}
use Rattle.anb_plays.specs.Plays.{stopped}
use Rattle.anb_plays.specs.Codes.{Act}
use Rattle.anb_code.specs.declared.instr.Instr.{Instr}
use Rattle.anb_code.specs.declared.instr.Instr.TheVariants.{Take, Fresh, Recv, Hash, Mac, Seal, Unseal, Wrap, Unwrap, Build, Parse, Equal, Send}
use Rattle.anb_code.specs.CodeValue.{CodeValue}
use Rattle.anb_code.specs.Meaning.{act_of, acts_of}
use Rattle.anb_protocol.specs.Protocols.{ProtocolValue}
use Rattle.anb_protocol.specs.Plays.{events_of}
use Rattle.anb_protocol.specs.Texts.{IsTermOf}
use Rattle.anb_protocol.proofs.KnowLemmas.{formed}
use Rattle.anb_unify.specs.Substitutions.{put_in, KeepsNames, IsNamed, AreNamed}
use Rattle.anb_unify.specs.Equations.{IsSolution, atoms_of}
use Rattle.anb_unify.proofs.Solutions.{after_keeps, after_solves, map_after}
use Rattle.anb_probe.specs.Cases.{less, drawn, CaseValue, IsCase, IsImplied, run_in_terms}
use Rattle.anb_distinguish.specs.Finding.{IsCheck, less_equations, received_in, HasPatterns, case_with}
use Rattle.anb_distinguish.specs.Apart.{MakesOne, AreOneFor, TellsApart}
use Rattle.anb_distinguish.specs.Laws.{SameSidesAreImplied, TwoSidesMakeACase}
use Rattle.anb_distinguish.proofs.Dropped.{received_less, can_less, taking_less}
use Rattle.anb_distinguish.proofs.Sides.{all_named_more, drawn_named, sides_of}
use Rattle.anb_distinguish.proofs.Making.{spared_keeps, each_formed_still}
use Rattle.anb_suite.specs.declared.cases.Case.{Case}
use Rattle.anb_suite.specs.declared.solving.Solved.{Solved}
use Rattle.anb_suite.specs.Reading.{read_by}
use Rattle.anb_suite.specs.declared.reading.Reading.{Reading}
use Rattle.anb_suite.specs.Suites.{case_value, IsCaseOf, IsImpliedAs}
use Rattle.anb_suite.specs.Walks.{sent_in}
use Rattle.anb_suite.specs.Sparing.{narrated_at, spared_at, IsPutInto, is_exchange, event_before, asked, IsSolved}
use Rattle.anb_suite.proofs.Behind.{stops_by}
use Rattle.anb_suite.proofs.Lessening.{sent_less}
use Rattle.anb_suite.proofs.Messages.{exchanges, sends_solved, stops_behind}
use Rattle.anb_suite.proofs.Honest.{term_named}
use Rattle.anb_suite.proofs.Spared.{assigned_holds, spared_holds, each_named_put, both_named, formed_atoms, atoms_both, front_same, AreParted, parted}

-- ---- sends and receives of a code

one_exchange : (formats : List FormatValue) (i : Instr) → exchanges (act_of formats i) ≡ is_exchange i
one_exchange formats (Take text) = refl
one_exchange formats Fresh = refl
one_exchange formats Recv = refl
one_exchange formats (Hash r) = refl
one_exchange formats (Mac k b) = refl
one_exchange formats (Seal k b) = refl
one_exchange formats (Unseal k c) = refl
one_exchange formats (Wrap k d b) = refl
one_exchange formats (Unwrap k d c) = refl
one_exchange formats (Build f rs) = refl
one_exchange formats (Parse f r) = refl
one_exchange formats (Equal a b) = refl
one_exchange formats (Send r) = refl

exchanges_of : (formats : List FormatValue) (instrs : List Instr) → count_by exchanges (map (act_of formats) instrs) ≡ count_by is_exchange instrs
exchanges_of formats [] = refl
exchanges_of formats (i ∷ instrs) =
    let one : cond {A = ℕ} (exchanges (act_of formats i)) 1 0 ≡ cond {A = ℕ} (is_exchange i) 1 0 = ap (λ b. cond {A = ℕ} b 1 0) (one_exchange formats i) in
    omega (arith, one, exchanges_of formats instrs, sum_by-cons (λ x. cond {A = ℕ} (exchanges x) 1 0) (act_of formats i) (map (act_of formats) instrs), sum_by-cons (λ x. cond {A = ℕ} (is_exchange x) 1 0) i instrs)

abbrev case_by : List Tree → Tree → Tree → Tree → CaseValue
case_by xs w o t = record { arrivals = xs; wrong = w; sides = record { one = o; other = t } }

same_case : (xs ys : List Tree) (w u o q t s : Tree) → xs ≡ ys → w ≡ u → o ≡ q → t ≡ s → case_by xs w o t ≡ case_by ys u q s
same_case xs ys w u o q t s a b c d = ap (λ l. case_by l w o t) a ∙ ap (λ x. case_by ys x o t) b ∙ ap (λ x. case_by ys u x t) c ∙ ap (λ x. case_by ys u q x) d

module _ (p : ProtocolValue) (role : ℕ) (code : CodeValue) (reading : Reading) (check a b : ℕ) (compares : IsCheck (acts_of code) check a b) (solved : Solved) (s : IsSolved p role (read_by reading check a b (acts_of code)) check a b solved) where
  abbrev names : ℕ
  names = length p.atoms

  abbrev N : ℕ
  N = names + 1

  abbrev has : Op → Bool
  has = has_operator p.formats

  abbrev plan : List Event
  plan = events_of p role

  abbrev acts : List Act
  acts = read_by reading check a b (acts_of code)

  abbrev own : List Act
  own = acts_of code

  abbrev rs : List ℕ
  rs = received_in plan acts

  abbrev ss : List ℕ
  ss = sent_in acts

  abbrev ps : List Tree
  ps = map tree_of solved.patterns.items

  abbrev ts : List Tree
  ts = solved.explanation.terms

  abbrev honest : ℕ → Tree
  honest = narrated_at names ts

  abbrev f : ℕ → Tree
  f = s.general.put

  abbrev one : Tree
  one = f (N + a)

  abbrev other : Tree
  other = f (N + b)

  abbrev arrivals : List Tree
  arrivals = take (length rs) ps

  abbrev front : List ℕ
  front = atoms_of N (rs ++ a ∷ b ∷ [])

  pub parts : AreParted f N a b rs ss ps
  parts = subst (AreParted f N a b rs ss) (sym s.general.is) (parted f N a b rs ss)

  split : atoms_of N (asked p role acts a b) ≡ front ++ atoms_of N ss
  split = atoms_both N rs (a ∷ b ∷ ss) ∙ go (atoms_of N rs) ∙ ap (λ l. l ++ atoms_of N ss) (sym (atoms_both N rs (a ∷ b ∷ [])))
    where
      go : (xs : List ℕ) → xs ++ atoms_of N (a ∷ b ∷ ss) ≡ (xs ++ atoms_of N (a ∷ b ∷ [])) ++ atoms_of N ss
      go [] = refl
      go (x ∷ xs) = ap (λ l. x ∷ l) (go xs)

  -- each solution is an instance, at both parts
  at_parts : (g : ℕ → Tree) → IsSolution N (less_equations names plan acts check) g → (map g front ≡ map (λ k. put_in g (f k)) front) × (map g (atoms_of N ss) ≡ map (λ k. put_in g (f k)) (atoms_of N ss))
  at_parts g sol =
      let all = s.general.general g sol ∙ ap (map (put_in g)) s.general.is ∙ map_after g f (atoms_of N (asked p role acts a b)) in
      front_same g (λ k. put_in g (f k)) front (atoms_of N ss) (subst (λ l. map g l ≡ map (λ k. put_in g (f k)) l) split all)

  pub patterns : HasPatterns names plan acts check a b arrivals one other
  patterns =
      let is : arrivals ++ one ∷ other ∷ [] ≡ map f front =
      ap (λ l. l ++ one ∷ other ∷ []) parts.arrivals ∙ sym (map-append f (atoms_of N rs) ((N + a) ∷ (N + b) ∷ [])) ∙ ap (map f) (sym (atoms_both N rs (a ∷ b ∷ []))) in
      record {
        count = ap length parts.arrivals ∙ length-map (atoms_of N rs) f ∙ length-map rs (λ i. N + i);
        are = record { put = f; solution = s.general.solution; is = is; general = λ g sol. (at_parts g sol).0 ∙ sym (map_after g f front) ∙ ap (map (put_in g)) (sym is) };
      }

  at_honest : (map honest (atoms_of N rs) ≡ map (put_in honest) arrivals) × (honest (N + a) ≡ put_in honest one) × (honest (N + b) ≡ put_in honest other)
  at_honest = sides_of N a b honest (put_in honest) rs arrivals one other patterns.count (patterns.are.general honest s.honest.solution)

  makes_one : MakesOne names honest one other
  makes_one = record { keeps = s.honest.solution.keeps; same = sym at_honest.1 ∙ s.same ∙ at_honest.2; named = subst (IsNamed names) at_honest.1 s.named }

  pub are_one : AreOneFor names one other
  are_one = (honest, makes_one)

  pub implied : SameSidesAreImplied → one ≡ other → IsImplied has plan acts check
  implied law e = law has names plan acts check a b arrivals one s.over s.is (subst (HasPatterns names plan acts check a b arrivals one) (sym e) patterns)

  module _ (v : ℕ) (told : TellsApart names one other v) where
    abbrev sp : ℕ → Tree
    sp = spared_at names v ts

    made_case : TwoSidesMakeACase → IsCase has names plan acts check (case_with names v honest arrivals one other)
    made_case law = law has names plan acts check a b arrivals one other honest v s.over s.is patterns s.honest told.0 (told.1 honest makes_one)

    keeps : KeepsNames N sp
    keeps = spared_keeps names v honest told.0 s.honest.solution.keeps

    abbrev n : ℕ
    n = length (known plan)

    abbrev came : List Tree
    came = map (put_in sp) arrivals

    abbrev messages : List Tree
    messages = map (put_in sp) (drop (length rs + 2) ps)

    sends : (run_in_terms has plan (less check acts) came).sent ≡ messages
    sends =
        let known_named = all_named_more names (trees_of (known plan)) s.over.known in
        let all = sends_solved has N (known plan) (drawn plan) (less check acts) came (taking_less check has acts 0 0 n s.over.taking) (can_less check acts 0 s.over.can) known_named (drawn_named names plan s.over.made)
        (record {
          put = λ k. put_in sp (f k);
          solution = record {
            keeps = after_keeps N sp f keeps s.general.solution.keeps;
            solves = after_solves N sp f keeps (less_equations names plan acts check) s.general.solution.solves;
          };
          are = ap (map (put_in sp)) parts.arrivals ∙ map_after sp f (atoms_of N rs) ∙ ap (λ l. map (λ k. put_in sp (f k)) (atoms_of N l)) (sym (received_less check acts 0 n));
        }) in
        all ∙ ap (λ l. map (λ k. put_in sp (f k)) (atoms_of N l)) (sent_less check acts 0) ∙ sym (map_after sp f (atoms_of N ss)) ∙ ap (map (put_in sp)) (sym parts.messages)

    messages_formed : AreFormed has (trees_of messages)
    messages_formed =
        let at : map (put_in honest) (drop (length rs + 2) ps) ≡ map honest (atoms_of N ss) =
        ap (map (put_in honest)) parts.messages ∙ map_after honest f (atoms_of N ss) ∙ sym (at_parts honest s.honest.solution).1 in
        let each : (k : ℕ) → IsFormed has (honest k) = λ k. assigned_holds (IsFormed has) N (λ i l. tt) (omega arith) ts k (each_as (IsTermOf p) (IsFormed has) ts (formed p) s.terms) in
        each_formed_still names v honest has (drop (length rs + 2) ps) (subst (λ l. AreFormed has (trees_of l)) (sym at) (formed_atoms has honest (atoms_of N ss) each))

    spared_named : (k : ℕ) → IsNamed N (sp k)
    spared_named k =
        let more_named : (t : Tree) → IsTermOf p t → IsNamed N t = λ t h. (all_named_more names (more t none) (term_named p t h, tt)).0 in
        let each : (j : ℕ) → IsNamed N (honest j) = λ j. assigned_holds (IsNamed N) N (λ i l. l) (omega arith) ts j (each_as (IsTermOf p) (IsNamed N) ts more_named s.terms) in
        spared_holds (IsNamed N) names v honest (omega arith) each k

    module _ (case : Case) (number : case.check ≡ check) (event : case.event ≡ event_before code.instrs check) (put : IsPutInto names v ts (length rs) ps case) where
      arrives : map tree_of case.arrivals.items ≡ came
      arrives = put.arrivals

      value_is : case_value case ≡ case_with names v honest arrivals one other
      value_is = same_case (map tree_of case.arrivals.items) came (tree_of case.wrong) (honest v) (tree_of case.one) (put_in sp one) (tree_of case.other) (put_in sp other) put.arrivals put.wrong (put.one one parts.one) (put.other other parts.other)

      pub case_found : TwoSidesMakeACase → IsCaseOf p role code reading check case
      case_found law =
          let is = made_case law in
          let stops = stops_by (terms_over has) (drawn plan) reading check a b own (known plan) came is.stops.0 is.stops.1 in
          let at = stops_behind (terms_over has) (drawn plan) own [] (known plan) 0 0 0 came is.stops.0 check stops in
          let place : at.before ≡ check - 1 = omega (arith, at.counts) in
          let here : is.stops.0 ≡ case.event =
          at.done ∙ ap (λ k. 0 + count_by exchanges (take k own)) place ∙ ap (λ l. 0 + count_by exchanges l) (sym (map-take (act_of code.formats) (check - 1) code.instrs))
          ∙ ap (λ k. 0 + k) (exchanges_of code.formats (take (check - 1) code.instrs)) ∙ (let z : 0 + event_before code.instrs check ≡ event_before code.instrs check = omega arith in z) ∙ sym event in
          record {
            a = a;
            b = b;
            compares = compares;
            number = number;
            is = subst (IsCase has names plan acts check) (sym value_is) is;
            event = ap (λ l. (run_in_terms has plan own l).end) arrives ∙ stops ∙ ap (λ e. stopped e check) here;
            messages = ap (λ l. (run_in_terms has plan (less check acts) l).sent) arrives ∙ sends ∙ sym put.messages;
            formed = subst (λ l. AreFormed has (trees_of l)) (sym put.messages) messages_formed;
            named = both_named N (map tree_of case.messages.items) (map tree_of case.arrivals.items) (subst (λ l. AreNamed N (trees_of l)) (sym put.messages) (each_named_put N sp spared_named (drop (length rs + 2) ps)))
                (subst (λ l. AreNamed N (trees_of l)) (sym arrives) (each_named_put N sp spared_named arrivals));
          }

  -- ---- with the count and the spare name as they were found

  module _ (t u : Tree) (at_one : slice_get ps solved.count ≡ Some t) (at_other : slice_get ps (solved.count + 1) ≡ Some u) where
    one_is : one ≡ t
    one_is = let here = subst (λ k. slice_get ps k ≡ Some t) s.count at_one in let part = parts.one in cc

    other_is : other ≡ u
    other_is = let here = subst (λ k. slice_get ps (k + 1) ≡ Some u) s.count at_other in let part = parts.other in cc

    pub given_one : AreOneFor solved.spare t u
    given_one = subst (λ k. AreOneFor k t u) (sym s.spare) (subst (λ x. AreOneFor names x u) one_is (subst (AreOneFor names one) other_is are_one))

    pub given_implied : SameSidesAreImplied → t ≡ u → IsImpliedAs p role code reading check
    given_implied law e = record { a = a; b = b; compares = compares; is = implied law (one_is ∙ e ∙ sym other_is) }

    pub given_case : TwoSidesMakeACase → (v : ℕ) → TellsApart solved.spare t u v → (case : Case) → case.check ≡ check → case.event ≡ event_before code.instrs check → IsPutInto solved.spare v ts solved.count ps case → IsCaseOf p role code reading check case
    given_case law v told case number event put =
        let told_here = subst (λ k. TellsApart k t u v) s.spare told in
        let told_one = subst (λ x. TellsApart names x u v) (sym one_is) told_here in
        let told_both = subst (λ x. TellsApart names one x v) (sym other_is) told_one in
        let put_here = subst (λ k. IsPutInto k v ts solved.count ps case) s.spare put in
        let put_all = subst (λ k. IsPutInto names v ts k ps case) s.count put_here in
        case_found v told_both case number event put_all law

  pub many : solved.count + 2 ≤ length ps
  many = subst (λ k. k + 2 ≤ length ps) (sym s.count) parts.long
