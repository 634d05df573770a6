-- A stage of honest children.
use Rattle.std.proofs.Common.{◌≡◌, ℕ, zero, suc, ◌+◌, ◌<◌, ◌==◌, List, [], ◌∷◌, ◌++◌, length, map, take, Bool, true, false, cond, Option, Some, None, refl, sym, ap, ◌∙◌, subst, append_assoc, IsTrue}
use Rattle.std.specs.Prelude.{slice_get, filter, IfSome}
use Rattle.std.specs.List.{AllByRecursion}
use Rattle.std.specs.Option.{option_map_or}
use Rattle.std.proofs.lemmas.Bool.{eq-eqb}
use Rattle.std.proofs.lemmas.List.{append-nil, length-map, map-append}
use Rattle.std.proofs.lemmas.List.Elements.{filter-append}
use Rattle.std.proofs.Math.Seq.{take-append_seam}
use Rattle.anb_base.specs.Bytes.{IsBytes, is_bytes-IsBytes}
use Rattle.anb_base.specs.declared.TheConstants.{ARRIVAL}
use Rattle.anb_frame.specs.Frames.{frames}
use Rattle.anb_frame.specs.Cuts.{Tail, End, Cut, CutLeft, HasOneCut}
use Rattle.anb_term.specs.Tree.{Tree, IsFormed}
use Rattle.anb_lemmas.proofs.Each.{each_in_front}
use Rattle.anb_protocol.specs.Plans.{messages as term_list}
use Rattle.anb_plays.specs.Plays.{Played, Play, stopped, done}
use Rattle.anb_plays.specs.Honest.{honest, honest_play, heard, LabelsAreFormed}
use Rattle.anb_plays.specs.Statements.{HonestPlays, PlaysAreOne}
use Rattle.anb_protocol.specs.Choices.{each_after}
use Rattle.anb_protocol.specs.Protocols.{ActionValue, ProtocolValue}
use Rattle.anb_protocol.specs.Laws.{IsActionOf}
use Rattle.anb_protocol.specs.Texts.{known_by, known_terms}
use Rattle.anb_plays.specs.Plans.{known}
use Rattle.anb_protocol.specs.Plays.{IsSendable, events_of, honest_bytes, meaning_of}
use Rattle.anb_stage.specs.Children.{Child}
use Rattle.anb_stage.specs.Relays.{Message, AreCut, AreGood, bytes_of, bytes_to, ends_of, messages, message_of, missing, refusal_of, sends_of}
use Rattle.anb_stage.specs.Honest.{AreHonestChildren, AreMade, IsPlayOf, honest_message, honest_messages}
use Rattle.anb_stage.specs.declared.ends.Ends.{Ends}
use Rattle.anb_stage.proofs.Messages.{first_after-none}
use Rattle.anb_stage.proofs.PlaysGrow.{Begins, play_grows}
use Rattle.anb_stage.proofs.HonestSends.{count_heard, count_told, hears, tells, heard_all, sent_next, never_stops, ends_done, events_formed, knows_all}

begins_get : {A : Type 0} (xs ys : List A) (n : ℕ) (x : A) → Begins xs ys → slice_get xs n ≡ Some x → slice_get ys n ≡ Some x
begins_get xs ys n x more at = ap (λ l. slice_get l n) more.1 ∙ within xs n at where
  within : (xs : List _) (n : ℕ) → slice_get xs n ≡ Some x → slice_get (xs ++ more.0) n ≡ Some x
  within [] n at = cc
  within (y ∷ xs) zero at = at
  within (y ∷ xs) (suc n) at = within xs n at

count_sends : (role : ℕ) (actions : List ActionValue) → sends_of role (map ends_of actions) ≡ count_told role actions
count_sends role [] = refl
count_sends role (a ∷ actions) = by (a.from == role) (count_sends role actions) where
  by : (b : Bool) → sends_of role (map ends_of actions) ≡ count_told role actions
      → length (cond b (ends_of a ∷ filter (λ (x : Ends). x.from == role) (map ends_of actions)) (filter (λ (x : Ends). x.from == role) (map ends_of actions)))
      ≡ length (cond b (a ∷ filter (tells role) actions) (filter (tells role) actions))
  by true ih = ap suc ih
  by false ih = ih

pub each_both : {X Y : Type 0} (f : List X → X → List Y) (before xs ys : List X) → each_after f before (xs ++ ys) ≡ each_after f before xs ++ each_after f (before ++ xs) ys
each_both f before [] ys = ap (λ l. each_after f l ys) (sym (append-nil before))
each_both f before (x ∷ xs) ys =
    ap (λ l. f before x ++ l) (each_both f (before ++ x ∷ []) xs ys ∙ ap (λ l. each_after f (before ++ x ∷ []) xs ++ each_after f l ys) (append_assoc before (x ∷ []) xs))
    ∙ sym (append_assoc (f before x) (each_after f (before ++ x ∷ []) xs) (each_after f (before ++ (x ∷ xs)) ys))

-- the bytes of more messages to a role
abbrev to_role : ℕ → Message → Bool
to_role role m = m.to == role

abbrev bytes_among : ℕ → List Message → List (List ℕ)
bytes_among role ms = map (λ (m : Message). m.bytes) (filter (to_role role) ms)

among_both : (role : ℕ) (ms ns : List Message) → bytes_among role (ms ++ ns) ≡ bytes_among role ms ++ bytes_among role ns
among_both role ms ns =
    ap (map (λ (m : Message). m.bytes)) (filter-append (to_role role) ms ns)
    ∙ map-append (λ (m : Message). m.bytes) (filter (to_role role) ms) (filter (to_role role) ns)

terms_of : List ActionValue → List Tree
terms_of actions = map (λ (a : ActionValue). a.message) actions

module _ (p : ProtocolValue) (atoms : ℕ → List ℕ) where
  among_honest : (role : ℕ) (before acts : List ActionValue)
      → bytes_among role (each_after (honest_message p atoms) before acts) ≡ map (honest_bytes p atoms) (terms_of (filter (hears role) acts))
  unfolding terms_of
  among_honest role before [] = refl
  among_honest role before (a ∷ acts) = by (a.to == role) (among_honest role (before ++ a ∷ []) acts) where
    rest : List Message
    rest = each_after (honest_message p atoms) (before ++ a ∷ []) acts

    one : Message
    one = record { action = length before + 1; to = a.to; bytes = honest_bytes p atoms a.message }

    by : (b : Bool) → bytes_among role rest ≡ map (honest_bytes p atoms) (terms_of (filter (hears role) acts))
        → map (λ (m : Message). m.bytes) (cond b (one ∷ filter (to_role role) rest) (filter (to_role role) rest))
        ≡ map (honest_bytes p atoms) (terms_of (cond b (a ∷ filter (hears role) acts) (filter (hears role) acts)))
    by true ih = ap (λ l. honest_bytes p atoms a.message ∷ l) ih
    by false ih = ih

  -- the terms that a role hears in the first actions are the first that it hears in all
  first_heard : (role : ℕ) (before rest : List ActionValue) → AllByRecursion (IsActionOf p) p.actions → p.actions ≡ before ++ rest
      → take (count_heard role before) (heard (events_of p role)) ≡ terms_of (filter (hears role) before)
  unfolding terms_of
  first_heard role before rest all split =
      let xs = map (λ (a : ActionValue). a.message) (filter (hears role) before) in
      let ys = map (λ (a : ActionValue). a.message) (filter (hears role) rest) in
      let is : heard (events_of p role) ≡ xs ++ ys =
      heard_all p role all ∙ ap (λ l. map (λ (a : ActionValue). a.message) (filter (hears role) l)) split
      ∙ ap (map (λ (a : ActionValue). a.message)) (filter-append (hears role) before rest)
      ∙ map-append (λ (a : ActionValue). a.message) (filter (hears role) before) (filter (hears role) rest) in
      ap (take (count_heard role before)) is ∙ ap (λ n. take n (xs ++ ys)) (sym (length-map (filter (hears role) before) (λ (a : ActionValue). a.message))) ∙ take-append_seam xs ys

  -- what is relayed of the first actions is honest, and none is missing
  pub record SoFar (outputs : ℕ → List (List ℕ)) (tails : ℕ → Tail) (before : List ActionValue) : Type 0 where
    pub honest : messages outputs (map ends_of before) ≡ honest_messages p atoms before
    pub none : missing outputs tails (map ends_of before) ≡ None

  pub record Premises (draws : ℕ → ℕ → List ℕ) (children : ℕ → Child) (outputs : ℕ → List (List ℕ)) (tails : ℕ → Tail) (relayed rest : List ActionValue) : Type 0 where
    pub strings : (k : ℕ) → IsTrue ((meaning_of p).is_value (atoms k))
    pub sendable : IsSendable p
    pub made : AreMade p atoms draws
    pub split : p.actions ≡ relayed ++ rest
    pub cut : AreCut (length p.roles) children outputs tails
    pub are : AreHonestChildren p atoms draws outputs relayed children
    pub ends : AllByRecursion (IsActionOf p) p.actions
    pub formed : (role : ℕ) → LabelsAreFormed (meaning_of p).has (events_of p role)
    pub knows : (role : ℕ) → known (events_of p role) ≡ known_by p role
    pub one_cut : HasOneCut ARRIVAL
    pub plays : HonestPlays (meaning_of p)
    pub one_play : PlaysAreOne (meaning_of p)

  module _ (draws : ℕ → ℕ → List ℕ) (children : ℕ → Child) (outputs : ℕ → List (List ℕ)) (tails : ℕ → Tail) (relayed rest : List ActionValue) (given : Premises draws children outputs tails relayed rest) where
    -- a child's output is what its play sends
    output_is : (role : ℕ) (within : role < length p.roles) → let child = given.are role within in outputs role ≡ child.play.sent
    output_is role within =
        let child = given.are role within in
        let cut : Cut ARRIVAL (frames child.play.sent) (outputs role) (tails role) = subst (λ left. CutLeft ARRIVAL left (outputs role) (tails role)) child.says (given.cut role within) in
        let own : Cut ARRIVAL (frames child.play.sent) child.play.sent End = ([], sym (append-nil (frames child.play.sent)), child.short, refl) in
        (given.one_cut (frames child.play.sent) (outputs role) child.play.sent (tails role) End cut own).0

    -- the play over the honest messages of the first actions
    first_play : (role : ℕ) (before after : List ActionValue) → role < length p.roles → p.actions ≡ before ++ after → messages outputs (map ends_of before) ≡ honest_messages p atoms before
        → IsPlayOf p atoms (draws role) role (bytes_to outputs role (map ends_of before)) (honest_play (meaning_of p) atoms (events_of p role) (count_heard role before))
    first_play role before after within at honest =
        let n = count_heard role before in
        let plan = events_of p role in
        let heard_is : map (honest_bytes p atoms) (take n (heard plan)) ≡ bytes_to outputs role (map ends_of before) =
        ap (map (honest_bytes p atoms)) (first_heard role before after given.ends at) ∙ sym (ap (bytes_among role) honest ∙ among_honest role [] before) in
        let play = given.plays (draws role) atoms plan n given.strings (given.sendable role within) (given.formed role) (λ i t e. given.made role i t within e) in
        subst (λ xs. IsPlayOf p atoms (draws role) role xs (honest_play (meaning_of p) atoms plan n)) heard_is
        (subst (λ ts. Play (meaning_of p) (draws role) plan (map (honest_bytes p atoms) ts) (map (honest_bytes p atoms) (take n (heard plan))) (honest_play (meaning_of p) atoms plan n)) (given.knows role) play)

    -- the next message is there, and honest
    next_bytes : (before more after : List ActionValue) (a : ActionValue) → relayed ≡ before ++ more → p.actions ≡ before ++ a ∷ after → IsActionOf p a
        → messages outputs (map ends_of before) ≡ honest_messages p atoms before → bytes_of outputs (map ends_of before) (ends_of a) ≡ Some (honest_bytes p atoms a.message)
    next_bytes before more after a inside at is honest =
        let role = a.from in
        let child = given.are role is.from in
        let ys = bytes_among role (each_after (message_of outputs) (map ends_of before) (map ends_of more)) in
        let hears_more : bytes_to outputs role (map ends_of relayed) ≡ bytes_to outputs role (map ends_of before) ++ ys =
        ap (λ l. bytes_among role (messages outputs (map ends_of l))) inside ∙ ap (λ l. bytes_among role (messages outputs l)) (map-append ends_of before more)
        ∙ ap (bytes_among role) (each_both (message_of outputs) [] (map ends_of before) (map ends_of more))
        ∙ among_both role (messages outputs (map ends_of before)) (each_after (message_of outputs) (map ends_of before) (map ends_of more)) in
        let plays = subst (λ xs. IsPlayOf p atoms (draws role) role xs child.play) hears_more child.plays in
        let begins = play_grows (meaning_of p) (draws role) (events_of p role) (map (honest_bytes p atoms) (known_by p role)) (bytes_to outputs role (map ends_of before)) ys
        (honest_play (meaning_of p) atoms (events_of p role) (count_heard role before)) child.play (first_play role before (a ∷ after) is.from at honest) plays in
        ap (λ xs. slice_get xs (sends_of role (map ends_of before))) (output_is role is.from)
        ∙ ap (slice_get child.play.sent) (count_sends role before)
        ∙ begins_get (honest_play (meaning_of p) atoms (events_of p role) (count_heard role before)).sent child.play.sent (count_told role before) (honest_bytes p atoms a.message) begins
        (sent_next p role (meaning_of p) atoms before after a at given.ends (eq-eqb role role refl))

    -- one action more
    so_far_next : (before more after : List ActionValue) (a : ActionValue) → relayed ≡ before ++ more → p.actions ≡ before ++ a ∷ after → IsActionOf p a
        → SoFar outputs tails before → SoFar outputs tails (before ++ a ∷ [])
    so_far_next before more after a inside at is so =
        let there = next_bytes before more after a inside at is so.honest in
        let both : map ends_of (before ++ a ∷ []) ≡ map ends_of before ++ ends_of a ∷ [] = map-append ends_of before (a ∷ []) in
        let n : length (map ends_of before) ≡ length before = length-map before ends_of in
        record {
          honest =
              ap (messages outputs) both ∙ each_both (message_of outputs) [] (map ends_of before) (ends_of a ∷ [])
              ∙ ap (λ ms. ms ++ (message_of outputs (map ends_of before) (ends_of a) ++ [])) so.honest
              ∙ ap (λ o. honest_messages p atoms before ++ (option_map_or (λ bytes. record { action = length (map ends_of before) + 1; to = a.to; bytes = bytes } ∷ []) o [] ++ [])) there
              ∙ ap (λ k. honest_messages p atoms before ++ record { action = k + 1; to = a.to; bytes = honest_bytes p atoms a.message } ∷ []) n
              ∙ sym (each_both (honest_message p atoms) [] before (a ∷ []));
          none =
              ap (missing outputs tails) both
              ∙ first_after-none (refusal_of outputs tails) [] (map ends_of before) (ends_of a) so.none (rw there refl);
        }

    so_far_all : (before acts : List ActionValue) → relayed ≡ before ++ acts → AllByRecursion (IsActionOf p) acts → SoFar outputs tails before → SoFar outputs tails relayed
    so_far_all before [] inside all so = subst (SoFar outputs tails) (sym (inside ∙ append-nil before)) so
    so_far_all before (a ∷ acts) inside all so =
        so_far_all (before ++ a ∷ []) acts (inside ∙ sym (append_assoc before (a ∷ []) acts)) all.1
        (so_far_next before (a ∷ acts) (acts ++ rest) a inside (given.split ∙ ap (λ l. l ++ rest) inside ∙ append_assoc before (a ∷ acts) rest) all.0 so)

  pub stages_are_honest : AllByRecursion (IsActionOf p) p.actions → AllByRecursion (IsFormed (meaning_of p).has) (known_terms p ++ term_list p.actions)
      → HasOneCut ARRIVAL → HonestPlays (meaning_of p) → PlaysAreOne (meaning_of p)
      → (draws : ℕ → ℕ → List ℕ) (children : ℕ → Child) (outputs : ℕ → List (List ℕ)) (tails : ℕ → Tail) (relayed rest : List ActionValue)
      → ((k : ℕ) → IsBytes (atoms k)) → IsSendable p → AreMade p atoms draws → p.actions ≡ relayed ++ rest → AreCut (length p.roles) children outputs tails
      → AreHonestChildren p atoms draws outputs relayed children
      → (messages outputs (map ends_of relayed) ≡ honest_messages p atoms relayed)
      × (missing outputs tails (map ends_of relayed) ≡ None)
      × ((role e at : ℕ) (play : Played (List ℕ)) → role < length p.roles
      → IsPlayOf p atoms (draws role) role (bytes_to outputs role (map ends_of relayed)) play → play.end ≡ stopped e at → ⊥)
      × (rest ≡ [] → AreGood children (length p.roles))
  stages_are_honest ends formed one_cut plays one_play draws children outputs tails relayed rest strings sendable made split cut are =
      (so.honest, so.none, no_stop, all_well) where
        given : Premises draws children outputs tails relayed rest
        given = record {
          strings = λ k. is_bytes-IsBytes (atoms k) (strings k);
          sendable = sendable;
          made = made;
          split = split;
          cut = cut;
          are = are;
          ends = ends;
          formed = λ role. events_formed (meaning_of p).has p role formed;
          knows = λ role. knows_all p role;
          one_cut = one_cut;
          plays = plays;
          one_play = one_play;
        }

        so : SoFar outputs tails relayed
        so =
            so_far_all draws children outputs tails relayed rest given [] relayed refl (each_in_front (IsActionOf p) relayed rest (subst (AllByRecursion (IsActionOf p)) split ends))
            (record { honest = refl; none = refl })

        is_honest : (role : ℕ) (play : Played (List ℕ)) → role < length p.roles → IsPlayOf p atoms (draws role) role (bytes_to outputs role (map ends_of relayed)) play
            → play ≡ honest_play (meaning_of p) atoms (events_of p role) (count_heard role relayed)
        is_honest role play within is =
            one_play (draws role) (events_of p role) (map (honest_bytes p atoms) (known_by p role)) (bytes_to outputs role (map ends_of relayed)) play
            (honest_play (meaning_of p) atoms (events_of p role) (count_heard role relayed)) is (first_play draws children outputs tails relayed rest given role relayed rest within split so.honest)

        no_stop : (role e at : ℕ) (play : Played (List ℕ)) → role < length p.roles → IsPlayOf p atoms (draws role) role (bytes_to outputs role (map ends_of relayed)) play → play.end ≡ stopped e at → ⊥
        no_stop role e at play within is stops =
            never_stops (meaning_of p) atoms (events_of p role) 0 (count_heard role relayed) e at (ap (λ (q : Played (List ℕ)). q.end) (sym (is_honest role play within is)) ∙ stops)

        all_well : rest ≡ [] → AreGood children (length p.roles)
        all_well none role within =
            let child = are role within in
            let whole : p.actions ≡ relayed = split ∙ ap (λ l. relayed ++ l) none ∙ append-nil relayed in
            let n : count_heard role relayed ≡ length (heard (events_of p role)) =
            sym (ap length (heard_all p role ends) ∙ length-map (filter (hears role) p.actions) (λ (a : ActionValue). a.message) ∙ ap (count_heard role) whole) in
            let done : child.play.end ≡ done =
            ap (λ (q : Played (List ℕ)). q.end) (is_honest role child.play within child.plays) ∙ ends_done (meaning_of p) atoms (events_of p role) 0 (count_heard role relayed) n in
            subst (λ (o : Option ℕ). IfSome o (λ t. t ≡ 0)) (sym (child.ends done)) refl
