-- In an attempt in the scene of the case of a check, where the child says first what the role's code less some checks says, this one among
-- them, both sides say the bytes of the scene's terms, and the partner refuses none.
use Rattle.std.proofs.Common.{◌≡◌, ℕ, zero, suc, List, [], ◌∷◌, ◌++◌, length, map, take, drop, replicate, Bool, true, Option, Some, None, IfSome, IsTrue, Result, Ok, Err, refl, sym, ap, ◌∙◌, subst, append_assoc, append-nil, take-append-drop}
use Rattle.std.specs.Prelude.{unwrap_or, ◌==◌}
use Rattle.std.specs.Option.{option_map}
use Rattle.std.proofs.Math.Seq.{take-length}
use Rattle.std.proofs.lemmas.Bool.{eqb-true}
use Rattle.std.proofs.lemmas.List.{length-map}
use Rattle.anb_lemmas.proofs.Each.{each_got}
use Rattle.anb_base.specs.Bytes.{IsBytes, is_bytes-IsBytes}
use Rattle.anb_term.specs.Lawful.{Lawful}
use Rattle.anb_term.specs.FreeAlgebra.{terms_over}
use Rattle.anb_term.specs.FreeLawful.{free_lawful}
use Rattle.anb_term.specs.Tree.{Tree, leaf, trees_of, AreFormed}
use Rattle.anb_term.specs.Value.{Meaning}
use Rattle.anb_term.specs.View.{tree_of}
use Rattle.anb_term.proofs.Demands.{agree_holds_all}
use Rattle.anb_algebra.specs.ByteLawful.{bytes_are_lawful}
use Rattle.anb_code.specs.CodeValue.{CodeValue}
use Rattle.anb_code.specs.Meaning.{acts_of}
use Rattle.anb_machine.specs.declared.turn.Halt.{Halt}
use Rattle.anb_plays.specs.Codes.{Act}
use Rattle.anb_plays.specs.Exec.{exec, HasTakes}
use Rattle.anb_plays.specs.Fits.{start}
use Rattle.anb_plays.specs.Honest.{honest, made}
use Rattle.anb_plays.specs.Plans.{Event, known}
use Rattle.anb_plays.specs.Plays as plays
use Rattle.anb_plays.specs.Plays.{stopped, waiting, Played, Play}
use Rattle.anb_plays.specs.Runs.{no_place, run, without_place}
use Rattle.anb_plays.specs.Statements.{HonestAgree}
use Rattle.anb_plays.proofs.Exec.{exec_is_run, takes_ready}
use Rattle.anb_plays.proofs.Honest.{honest_agree}
use Rattle.anb_protocol.specs.Plans.{PlanEvent, to_know, to_receive, plan_of}
use Rattle.anb_protocol.specs.Plays.{event_of, events_of, meaning_of}
use Rattle.anb_protocol.specs.Protocols.{ProtocolValue}
use Rattle.anb_protocol.specs.Texts.{IsTermOf, known_by}
use Rattle.anb_protocol.proofs.KnowLemmas.{formed, formed_list}
use Rattle.anb_compile.proofs.Protocols.{all_known}
use Rattle.anb_seal.specs.Streams.{draw_of}
use Rattle.anb_transcript.specs.declared.following.Due.{Due}
use Rattle.anb_transcript.specs.declared.following.Due.TheVariants.{Receive}
use Rattle.anb_transcript.specs.declared.transcript.TranscriptLine.{TranscriptLine}
use Rattle.anb_transcript.specs.declared.transcript.TranscriptLine.TheVariants.{In}
use Rattle.anb_transcript.specs.Replays.{arrivals_of, due_after, due_of, messages_of}
use Rattle.anb_judge.specs.Verdicts.{sides}
use Rattle.anb_probe.specs.Cases.{IsOver, drawn, less, less_all, run_in_terms}
use Rattle.anb_probe.specs.Laws.{AreValuesOf}
use Rattle.anb_probe.proofs.Following.{less_goes_on}
use Rattle.anb_suite.specs.Suites.{IsCaseOf, case_value}
use Rattle.anb_suite.specs.declared.cases.Case.{Case}
use Rattle.anb_suite.specs.declared.reading.Reading.TheVariants.{Both}
use Rattle.anb_partner.specs.Laws.{PartnersPlay}
use Rattle.anb_partner.specs.Plans.{Script, handed_terms, lines_before, mirrored, partner_plan}
use Rattle.anb_partner.specs.Talks.{own_lines, Hooked}
use Rattle.anb_attempts.specs.Attempts.{IsSceneOf, script_in}
use Rattle.anb_tries.specs.Laws.{Attempt, IsAttempt}
use Rattle.anb_tries.proofs.Along.{Fits}
use Rattle.anb_tries.proofs.Narrated.{arrivals_both, drop_first, fits_first, messages_both, role_known}
use Rattle.anb_tries.proofs.Passing.{after}
use Rattle.anb_tries.proofs.Placed.{R, own, placed}
use Rattle.anb_tries.proofs.Refusing as refusing
use Rattle.anb_tries.proofs.Refusing.{from_all, partner_known}
use Rattle.anb_dues.specs.Laws.{AreOfNames, IsTriedOf}
use Rattle.anb_dues.proofs.Firsts.{Are, Text}
use Rattle.anb_dues.proofs.Lines.{hook_of, hooked_at, known_formed, own_messages, own_talked, partner_mirrors, partner_plays_them, partner_says_them, right_of, wrong_bytes, wrong_of}
use Rattle.anb_dues.proofs.Naming.{draws_named, handed_ours, hands_named, knows_named, named, named_bytes, named_spare}
use Rattle.anb_dues.proofs.Saying.{SaysFirst}
use Rattle.anb_dues.proofs.Speaking.{IsAt, Right, none_first, play_reaches, speaks_right, talked}
use Rattle.anb_dues.proofs.Stopping.{Grounds}
use Rattle.anb_mutants.specs.Laws.{AreNamesOf}
use Rattle.anb_mutants.proofs.Dropped.{taking_without}
use Rattle.anb_mutants.proofs.Going.{Goes, goes}
use Rattle.anb_mutants.proofs.Lacking.{AreDrawn, Drawn, Says, says_right}

-- ---- what was made of the right value, or this where nothing was

abbrev made_of : Text → Option Hooked → Text
made_of x None = x
made_of x (Some h) = h.wrong

made_is : (x : Text) (o : Option Hooked) → IfSome o (λ h. h.wrong ≡ x) → made_of x o ≡ x
made_is x None is = refl
made_is x (Some h) is = is

own_made : (x : Text) (hs : List Text) (o : Option Hooked) (ls : List TranscriptLine) → own_lines hs o ls ≡ map In hs ++ talked (right_of o) (made_of x o) (hook_of o) ls
own_made x hs None ls = refl
own_made x hs (Some h) ls = own_talked hs (Some h) ls

-- ---- what is due

wait_due : (l : List Text) (end : plays.End) → due_of l end ≡ Ok Receive → (l ≡ []) × (w : ℕ) × (end ≡ waiting w)
wait_due (b ∷ l) end is = absurd (cc)
wait_due [] (waiting e) is = (refl, e, refl)
wait_due [] plays.done is = absurd (cc)
wait_due [] (stopped e at) is = absurd (cc)

-- ---- the bytes of names, by what the child draws

module _ (a : Attempt) (is : IsAttempt a) (acts : List Act) (g : Grounds a.script.protocol a.script.role acts) (ofs : AreOfNames a.script.protocol a.script.role a.initial a.handed) (d : ℕ → Text) (drawn : (i : ℕ) → IsBytes (d i)) where
  abbrev pub name_of : ℕ → Text
  name_of n = named a.script.protocol a.script.role d ofs.atoms (wrong_of is.converses.talks.hooked) n

  changed_is : (o : Option Hooked) → IfSome o (λ h. h.wrong ≡ named a.script.protocol a.script.role d ofs.atoms (wrong_of o) (length a.script.protocol.atoms))
  changed_is None = tt
  changed_is (Some h) = sym (named_spare a.script.protocol a.script.role g.ours d ofs.atoms h.wrong)

  pub names_are : AreNamesOf a is d name_of
  names_are =
      let wrong = wrong_of is.converses.talks.hooked in
      record {
        bytes = named_bytes a.script.protocol a.script.role g.ours d ofs.atoms wrong ofs.bytes drawn (wrong_bytes a.at a.wrong a.conversation.lines is.converses.talks.hooked is.converses.talks.is_hooked);
        begins = ofs.begins ∙ sym (knows_named a.script.protocol a.script.role g.ours d ofs.atoms wrong);
        hands = ofs.hands ∙ sym (hands_named a.script.protocol a.script.role g.ours d ofs.atoms wrong);
        draws = draws_named a.script.protocol a.script.role g.ours d ofs.atoms wrong;
        changed = changed_is is.converses.talks.hooked;
      }

-- ---- the scene, and what the child says

-- what is known of a script in the scene of a case
pub record Scened (code : CodeValue) (check : ℕ) (case : Case) (s : Script) (a : Attempt) : Type 0 where
  pub law : PartnersPlay s.protocol
  pub base : Grounds s.protocol s.role (acts_of code)
  pub names : AreOfNames s.protocol s.role a.initial a.handed
  pub is_case : IsCaseOf s.protocol s.role code Both check case
  pub right : s.right ≡ Some (tree_of case.wrong)
  pub arrivals : s.arrivals ≡ map tree_of case.arrivals.items
  pub messages : s.messages ≡ map tree_of case.messages.items

pub scened : (p : ProtocolValue) → PartnersPlay p → (a : Attempt) (of : IsTriedOf p a) → Grounds p of.role (acts_of of.code) → (check : ℕ) (case : Case) → IsCaseOf p of.role of.code Both check case → IsSceneOf (length p.atoms) case of.is.scene → Scened of.code check case a.script a
scened p law a of g check case is_case scene =
    let i = of.is in
    let there : Scened of.code check case (script_in p of.role i.scene) a = record {
      law = law;
      base = g;
      names = i.names;
      is_case = is_case;
      right = ap (option_map tree_of) scene.right;
      arrivals = ap (λ v. map tree_of v.items) scene.arrivals;
      messages = ap (λ v. map tree_of v.items) scene.messages;
    } in
    subst (λ (s : Script). Scened of.code check case s a) (sym i.script) there

-- The child says first what the code less some checks says, this one among them; and bytes of all names, by what it draws.
pub record SaysLess (a : Attempt) (is : IsAttempt a) (code : CodeValue) (check : ℕ) : Type 0 where
  pub drops : ℕ → Bool
  pub dropped : drops check ≡ true
  pub draw : ℕ → Text
  pub atoms : ℕ → Text
  pub names : AreNamesOf a is draw atoms
  pub later : List Text
  pub first : (run (meaning_of a.script.protocol) draw (less_all drops (acts_of code)) a.initial (arrivals_of a.conversation.lines)).sent ≡ messages_of a.conversation.lines ++ later

-- ---- an attempt

module _ (a : Attempt) (is : IsAttempt a) (code : CodeValue) (check : ℕ) (case : Case) (h : Scened code check case a.script a) (s : SaysLess a is code check) where
  abbrev p : ProtocolValue
  p = a.script.protocol

  abbrev law : PartnersPlay a.script.protocol
  law = h.law

  abbrev g : Grounds a.script.protocol a.script.role (acts_of code)
  g = h.base

  abbrev is_case : IsCaseOf a.script.protocol a.script.role code Both check case
  is_case = h.is_case

  abbrev drops : ℕ → Bool
  drops = s.drops

  abbrev atoms : ℕ → Text
  atoms = s.atoms

  abbrev role : ℕ
  role = a.script.role

  abbrev by_bytes : Meaning Text
  by_bytes = meaning_of a.script.protocol

  abbrev events : List Event
  events = events_of a.script.protocol a.script.role

  abbrev acts : List Act
  acts = acts_of code

  abbrev spare : ℕ
  spare = length a.script.protocol.atoms

  abbrev lines : List TranscriptLine
  lines = a.conversation.lines

  abbrev d : ℕ → Text
  d = s.draw

  abbrev o : Option Hooked
  o = is.converses.talks.hooked

  abbrev wrong : Text
  wrong = made_of (s.atoms (length a.script.protocol.atoms)) is.converses.talks.hooked

  abbrev came : List Tree
  came = map tree_of case.arrivals.items

  abbrev said_then : List Tree
  said_then = map tree_of case.messages.items

  lawful : Lawful by_bytes
  lawful = bytes_are_lawful a.script.protocol.formats a.script.protocol.suite

  agrees : HonestAgree by_bytes
  agrees = honest_agree by_bytes lawful

  -- ---- the bytes of names

  abbrev of : Tree → Text
  of t = honest (meaning_of a.script.protocol) s.atoms t

  name_values : (n : ℕ) → IsTrue (by_bytes.is_value (atoms n))
  name_values n = is_bytes-IsBytes (atoms n) (s.names.bytes n)

  pub val : AreValuesOf by_bytes events atoms d
  val = record { values = name_values; drawn = s.names.draws }

  pub knows : a.initial ≡ map of (known events)
  knows = s.names.begins ∙ ap (map of) (sym (role_known p role))

  wrong_is : wrong ≡ atoms spare
  wrong_is = made_is (atoms spare) o s.names.changed

  -- ---- the run of the code less the checks

  abbrev R_less : List Text → Played Text
  R_less xs = run (meaning_of a.script.protocol) s.draw (less_all s.drops (acts_of code)) a.initial xs

  pub is_over : IsOver (R_less (map of came))
  is_over =
      let over = less_goes_on by_bytes agrees (agree_holds_all by_bytes lawful) spare events acts check (case_value case) drops atoms d is_case.is g.fits.order g.formed val s.dropped in
      subst (λ l. IsOver (run by_bytes d (less_all drops acts) l (map of came))) (sym knows) over

  abbrev in_terms : Played Tree
  in_terms = exec (terms_over by_bytes.has) (drawn events) (less check acts) (known events) 0 0 0 came

  terms_run : in_terms ≡ run_in_terms by_bytes.has events (less check acts) came
  terms_run = exec_is_run (terms_over by_bytes.has) (free_lawful by_bytes.has) (drawn events) (less check acts) (known events) came (taking_without by_bytes.has (λ n. n == check) acts 0 0 (length (known events)) g.taking)

  terms_done : IsOver in_terms
  terms_done = subst (λ q. IsOver q) (sym terms_run) is_case.is.goes_on

  terms_sent : in_terms.sent ≡ said_then
  terms_sent = ap (λ (q : Played Tree). q.sent) terms_run ∙ is_case.messages

  less_run : (xs : List Text) → exec by_bytes d (less_all drops acts) (map of (known events)) 0 0 0 xs ≡ R_less xs
  less_run xs =
      let long : length (map of (known events)) ≡ length (known events) = length-map (known events) of in
      exec_is_run by_bytes lawful d (less_all drops acts) (map of (known events)) xs (subst (HasTakes by_bytes.has (less_all drops acts) 0) (sym long) (taking_without by_bytes.has drops acts 0 0 (length (known events)) g.taking))
      ∙ ap (λ l. run by_bytes d (less_all drops acts) l xs) (sym knows)

  drawn_right : AreDrawn by_bytes lawful agrees atoms name_values (drawn events) d 0 events
  drawn_right =
      from_all (Drawn by_bytes lawful agrees atoms name_values (drawn events) d) (made events)
      (λ k t at. (ap (λ x. unwrap_or x (leaf 0)) at, s.names.draws k t at, formed p t (each_got (IsTermOf p) (made events) k t (g.ours.makes role) at)))

  -- over the first lines it said what the lines have, and more where that is due
  says_at : (before after : List TranscriptLine) (rest : List Text) → lines ≡ before ++ after → Are of (arrivals_of before) came → (R_less (arrivals_of lines)).sent ≡ messages_of before ++ rest → Says of (sides events) before said_then rest
  says_at before after rest cut are sent =
      let xs : List Text = arrivals_of before ++ arrivals_of after in
      let all : arrivals_of lines ≡ xs = ap arrivals_of cut ∙ arrivals_both before after in
      let here : (exec by_bytes d (less_all drops acts) (map of (known events)) 0 0 0 xs).sent ≡ messages_of before ++ rest =
      ap (λ (q : Played Text). q.sent) (less_run xs) ∙ ap (λ l. (R_less l).sent) (sym all) ∙ sent in
      let fits : Fits (sides events) before = fits_first (sides events) before after (subst (Fits (sides events)) cut (placed a is law)) in
      let says = says_right by_bytes lawful agrees atoms name_values (drawn events) d (λ n. n == check) drops acts events (start events) 0 (known events) 0 0 0 0 0 came before (arrivals_of after) rest
      (λ n t. ap drops (eqb-true n check t) ∙ s.dropped) g.fits.order drawn_right (known_formed p role acts g) is_case.is.formed.1.1 (takes_ready by_bytes.has acts 0 (length (known events)) g.taking) terms_done fits are here in
      subst (λ l. Says of (sides events) before l rest) terms_sent says

  said : (k : ℕ) → Are of (arrivals_of (take k lines)) a.script.arrivals → Are of (messages_of (take k lines)) a.script.messages
  said k are =
      let front = take k lines in
      let back = drop k lines in
      let cut : lines ≡ front ++ back = sym (take-append-drop k lines) in
      let all : (R_less (arrivals_of lines)).sent ≡ messages_of front ++ (messages_of back ++ s.later) =
      s.first ∙ ap (λ l. messages_of l ++ s.later) cut ∙ ap (λ l. l ++ s.later) (messages_both front back) ∙ append_assoc (messages_of front) (messages_of back) s.later in
      let says = says_at front back (messages_of back ++ s.later) cut (subst (Are of (arrivals_of front)) h.arrivals are) all in
      subst (Are of (messages_of front)) (sym h.messages) says.are

  -- ---- the partner

  abbrev own_es : List PlanEvent
  own_es = plan_of a.script.protocol a.script.role

  abbrev hs : List Tree
  hs = handed_terms a.script.protocol a.script.role

  abbrev ks : List Tree
  ks = known_by a.script.protocol a.script.role

  abbrev r : Tree
  r = tree_of case.wrong

  abbrev partner : List Event
  partner = map event_of (partner_plan a.script)

  abbrev mirror : List PlanEvent
  mirror = mirrored spare (Some (tree_of case.wrong)) 1 own_es a.script.arrivals a.script.messages

  abbrev talk : List TranscriptLine
  talk = talked (right_of o) wrong (hook_of o) lines

  partner_is : partner ≡ map event_of (map to_know ks ++ (map (to_receive 0) hs ++ mirror))
  partner_is = partner_mirrors a.script r h.right

  partner_begins : a.initial ≡ map of (known partner)
  partner_begins = s.names.begins ∙ ap (map of) (sym (partner_known a.script))

  partner_hands : a.handed ≡ map of hs
  partner_hands = s.names.hands

  own_is : own a is law ≡ map In a.handed ++ talk
  own_is = own_made (atoms spare) a.handed o lines

  abbrev result : Played Text
  result = R a is law (arrivals_of (own a is law))

  abbrev q : Played Text
  q = without_place (R a is law (arrivals_of (own a is law)))

  partner_plays_it : Play by_bytes (draw_of (replicate 32 0) 0) partner a.initial (map of hs ++ arrivals_of talk) q
  partner_plays_it = partner_plays_them a is law talk own_is (map of hs) partner_hands

  partner_messages : messages_of (own a is law) ≡ messages_of talk
  partner_messages = own_messages a is law talk own_is

  partner_says : SaysFirst q (messages_of talk)
  partner_says = partner_says_them a is law talk own_is

  partner_formed : AreFormed by_bytes.has (trees_of (known partner))
  partner_formed = subst (λ ts. AreFormed by_bytes.has (trees_of ts)) (sym (partner_known a.script)) (formed_list p ks (all_known (IsTermOf p) p.knows role g.ours.knows))

  messages_formed : AreFormed by_bytes.has (trees_of a.script.messages)
  messages_formed = subst (λ ts. AreFormed by_bytes.has (trees_of ts)) (sym h.messages) is_case.formed

  at_is : IsAt (Some r) (hook_of o) (lines_before spare 0 own_es a.script.arrivals) 0 (length lines)
  at_is = hooked_at a is r h.right

  -- ---- line by line

  abbrev Came : ℕ → Type 0
  Came k = Right by_bytes agrees (draw_of (replicate 32 0) 0) atoms name_values spare (right_of o) wrong wrong_is (Some r) (hook_of o) a.script.arrivals lines k

  reached : (G : List Tree) × (e : ℕ) × AreFormed by_bytes.has (trees_of G) × plays.Walk by_bytes (draw_of (replicate 32 0) 0) (map event_of mirror) G (map of G) e 0 (arrivals_of talk) q
  reached = play_reaches by_bytes agrees (draw_of (replicate 32 0) 0) atoms name_values ks hs mirror a.initial (arrivals_of talk) q partner partner_is partner_formed
      (formed_list p hs (handed_ours p role g.ours)) partner_begins partner_plays_it

  claims : (k : ℕ) → Came k
  claims zero = none_first by_bytes agrees (draw_of (replicate 32 0) 0) atoms name_values spare (right_of o) wrong wrong_is (Some r) (hook_of o) a.script.arrivals lines
  claims (suc k) =
      speaks_right by_bytes agrees (draw_of (replicate 32 0) 0) atoms name_values spare (right_of o) wrong wrong_is
      1 0 (Some r) (hook_of o) own_es a.script.arrivals a.script.messages lines k reached.0 reached.1 0 q partner_says.0 is.whole.heard_all is.whole.said_all reached.2 messages_formed at_is (placed a is law) (said k (claims k).0) partner_says.1 reached.3

  pub all_came : Are of (arrivals_of lines) a.script.arrivals
  all_came = subst (λ ls. Are of (arrivals_of ls) a.script.arrivals) (take-length lines) (claims (length lines)).0

  all_said : Are of (messages_of lines) a.script.messages
  all_said = subst (λ ls. Are of (messages_of ls) a.script.messages) (take-length lines) (said (length lines) (claims (length lines)).0)

  -- and nothing more behind the last
  pub all_says : Says of (sides events) lines said_then s.later
  all_says = says_at lines [] s.later (sym (append-nil lines)) (subst (Are of (arrivals_of lines)) h.arrivals all_came) s.first

  -- ---- the talk's end

  partner_goes : Goes (sides events) lines (messages_of talk) q
  partner_goes =
      goes by_bytes agrees (draw_of (replicate 32 0) 0) atoms name_values spare (right_of o) wrong wrong_is
      1 0 (Some r) (hook_of o) own_es a.script.arrivals a.script.messages lines reached.0 reached.1 0 q is.whole.heard_all is.whole.said_all reached.2 messages_formed at_is (placed a is law) all_said reached.3

  abbrev due : Result Due Halt
  due = due_after (R a is law) (own a is law)

  -- it refuses none
  pub refuses_none : (halt : Halt) → due ≡ Err halt → ⊥
  refuses_none halt e =
      partner_goes.stops halt.event 0 (ap no_place (refusing.stops_there (drop (length (messages_of (own a is law))) result.sent) result.end halt e))

  -- where the partner waits the child has more to say
  pub more_said : due ≡ Ok Receive → (x : Text) × (later : List Text) × (s.later ≡ x ∷ later)
  more_said e =
      let w = wait_due (drop (length (messages_of (own a is law))) result.sent) result.end e in
      let none : partner_says.0 ≡ [] = sym (drop_first (messages_of talk) partner_says.0) ∙ ap (drop (length (messages_of talk))) (sym partner_says.1) ∙ ap (λ l. drop (length l) result.sent) (sym partner_messages) ∙ w.0 in
      let sent : q.sent ≡ messages_of talk = partner_says.1 ∙ ap (λ l. messages_of talk ++ l) none ∙ append-nil (messages_of talk) in
      let side = partner_goes.waits w.1 (ap no_place w.2) sent in
      all_says.more side
