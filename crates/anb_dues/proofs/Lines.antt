-- In an attempt in a scene in which a value is made wrong, the partner says and hears the bytes of the scene's terms as long as the role says
-- what it should.
use Rattle.std.proofs.Common.{◌≡◌, ℕ, zero, suc, ◌+◌, ◌≤◌, List, [], ◌∷◌, ◌++◌, length, map, take, drop, replicate, Option, Some, None, IfSome, IsTrue, refl, sym, ap, ◌∙◌, subst, arith, append_assoc, take-append-drop}
use Rattle.std.specs.Prelude.{slice_get}
use Rattle.std.specs.Option.{option_and_then}
use Rattle.std.specs.List.{AllByRecursion}
use Rattle.std.proofs.lemmas.List.{length-map}
use Rattle.anb_base.specs.Bytes.{IsBytes, IsBytes-pass, is_bytes-IsBytes}
use Rattle.anb_term.specs.Lawful.{Lawful, AreValues}
use Rattle.anb_term.specs.FreeAlgebra.{terms}
use Rattle.anb_term.specs.Tree.{Tree, trees_of, AreFormed}
use Rattle.anb_term.specs.Value.{Meaning}
use Rattle.anb_algebra.specs.ByteMeaning.{byte_meaning, has_operator}
use Rattle.anb_algebra.specs.ByteLawful.{bytes_are_lawful}
use Rattle.anb_code.specs.Meaning.{acts_of}
use Rattle.anb_plays.specs.Codes.{Act}
use Rattle.anb_plays.specs.Exec.{exec, HasTakes}
use Rattle.anb_plays.specs.Fits.{Follows, start}
use Rattle.anb_plays.specs.Honest.{honest, heard, made}
use Rattle.anb_plays.specs.Plans.{Event, known}
use Rattle.anb_plays.specs.Plays.{Played, Play}
use Rattle.anb_plays.specs.Runs.{run, without_place}
use Rattle.anb_plays.specs.Statements.{HonestAgree}
use Rattle.anb_plays.proofs.Exec.{exec_is_run, takes_ready}
use Rattle.anb_plays.proofs.Grows.{run_grows}
use Rattle.anb_plays.proofs.Honest.{honest_agree}
use Rattle.anb_protocol.specs.Plans.{PlanEvent, to_know, to_receive, plan_of}
use Rattle.anb_protocol.specs.Plays.{event_of, events_of, meaning_of}
use Rattle.anb_protocol.specs.Protocols.{ProtocolValue}
use Rattle.anb_protocol.specs.Texts.{IsTermOf, known_by}
use Rattle.anb_protocol.proofs.KnowLemmas.{formed_list}
use Rattle.anb_compile.proofs.Protocols.{all_known}
use Rattle.anb_seal.specs.Streams.{draw_of}
use Rattle.anb_transcript.specs.declared.transcript.TranscriptLine.{TranscriptLine}
use Rattle.anb_transcript.specs.declared.transcript.TranscriptLine.TheVariants.{In, Out}
use Rattle.anb_transcript.specs.Replays.{arrivals_of, messages_of}
use Rattle.anb_judge.specs.Verdicts.{sides}
use Rattle.anb_probe.specs.Laws.{AreValuesOf}
use Rattle.anb_openings.specs.Steps.{Progress, begun, after_all}
use Rattle.anb_openings.proofs.Readying.{ready_before}
use Rattle.anb_openings.proofs.Valued.{all_went, mapped_back, seen}
use Rattle.anb_partner.specs.Laws.{PartnersPlay}
use Rattle.anb_partner.specs.Plans.{Script, handed_terms, lines_before, mirrored, partner_plan}
use Rattle.anb_partner.specs.Talks.{Corruption, Hooked, IsHooked, flipped, own_lines}
use Rattle.anb_tries.specs.Laws.{Attempt, IsAttempt}
use Rattle.anb_tries.proofs.Placed.{R, arrive, from_none, own, partner_plays, placed, plan_apart}
use Rattle.anb_tries.proofs.Refusing.{partner_known}
use Rattle.anb_tries.proofs.Narrated.{role_known}
use Rattle.anb_dues.specs.Laws.{AreOfNames}
use Rattle.anb_dues.proofs.Counting.{counted, said_in}
use Rattle.anb_dues.proofs.Firsts.{Are, Text, are_behind, are_first, are_more, are_part}
use Rattle.anb_dues.proofs.Naming.{draws_named, handed_ours, hands_named, knows_named, named, named_bytes, named_spare}
use Rattle.anb_dues.proofs.Saying.{SaysFirst, says_all}
use Rattle.anb_dues.proofs.Sending.{sends_first}
use Rattle.anb_dues.proofs.Speaking.{IsAt, Right, hears_right, none_first, play_reaches, speaks_right, talked}
use Rattle.anb_dues.proofs.Stopping.{Changes, ComesTo, Grounds, SaysAlong}

-- ---- a change that was made, or none

abbrev pub hook_of : Option Hooked → Option ℕ
hook_of None = None
hook_of (Some h) = Some h.at

abbrev pub right_of : Option Hooked → Text
right_of None = []
right_of (Some h) = h.right

abbrev pub wrong_of : Option Hooked → Text
wrong_of None = []
wrong_of (Some h) = h.wrong

pub own_talked : (hs : List Text) (o : Option Hooked) (ls : List TranscriptLine) → own_lines hs o ls ≡ map In hs ++ talked (right_of o) (wrong_of o) (hook_of o) ls
own_talked hs None ls = refl
own_talked hs (Some h) ls = append_assoc (map In hs) (map flipped (take h.at ls)) (Out h.right ∷ In h.wrong ∷ map flipped (drop h.at ls))

is_at : (r : Tree) (before at : Option ℕ) (corrupt : Corruption) (ls : List TranscriptLine) (o : Option Hooked) → at ≡ before → IsHooked at corrupt ls o → IsAt (Some r) (hook_of o) before 0 (length ls)
is_at r before at corrupt ls None same is = from_none before (length ls) (subst (λ x. IfSome x (λ n. length ls ≤ n)) same is)
is_at r before at corrupt ls (Some h) same is = (sym same ∙ is.0 ∙ ap Some (let e : h.at ≡ 0 + h.at = omega arith in e), is.1)

pub wrong_bytes : (at : Option ℕ) (corrupt : Corruption) (ls : List TranscriptLine) (o : Option Hooked) → IsHooked at corrupt ls o → IsBytes (wrong_of o)
wrong_bytes at corrupt ls None is = IsBytes-pass [] refl
wrong_bytes at corrupt ls (Some h) is = is.3

arrivals_handed : (hs : List Text) (ls : List TranscriptLine) → arrivals_of (map In hs ++ ls) ≡ hs ++ arrivals_of ls
arrivals_handed [] ls = refl
arrivals_handed (h ∷ hs) ls = ap (λ l. h ∷ l) (arrivals_handed hs ls)

messages_handed : (hs : List Text) (ls : List TranscriptLine) → messages_of (map In hs ++ ls) ≡ messages_of ls
messages_handed [] ls = refl
messages_handed (h ∷ hs) ls = messages_handed hs ls

-- ---- runs and plays

module _ (p : ProtocolValue) (role : ℕ) (acts : List Act) (g : Grounds p role acts) where
  abbrev m : Meaning Text
  m = meaning_of p

  abbrev plan : List Event
  plan = events_of p role

  lawful : Lawful m
  lawful = bytes_are_lawful p.formats p.suite

  pub agrees : HonestAgree m
  agrees = honest_agree m lawful

  pub known_formed : AreFormed m.has (trees_of (known plan))
  known_formed = formed_list p (known plan) (subst (AllByRecursion (IsTermOf p)) (sym (role_known p role)) (all_known (IsTermOf p) p.knows role g.ours.knows))

  made_formed : AreFormed m.has (trees_of (made plan))
  made_formed = formed_list p (made plan) (g.ours.makes role)

  -- the run over values of names is a play
  pub played : (atoms draw : ℕ → Text) (init : List Text) (arrivals : List Tree) → AreValuesOf m plan atoms draw → ((i : ℕ) → IsTrue (m.is_value (draw i))) → init ≡ map (honest m atoms) (known plan) → AreFormed m.has (trees_of arrivals)
      → Play m draw plan init (map (honest m atoms) arrivals) (without_place (run m draw acts init (map (honest m atoms) arrivals)))
  played atoms draw init arrivals values drawn begins formed =
      let ones = subst (AreValues m) (sym begins) (agrees atoms (known plan) values.values known_formed).0 in
      let long : length init ≡ length (known plan) = ap length begins ∙ length-map (known plan) (honest m atoms) in
      (g.plays draw acts plan init (map (honest m atoms) arrivals) g.fits g.new drawn ones (agrees atoms arrivals values.values formed).0 long).0

  -- what its first acts send over terms, the run sends first over values of them
  sends : (atoms draw : ℕ → Text) (arrivals : List Tree) (n : ℕ) (before : Progress Tree) → AreValuesOf m plan atoms draw → AreFormed m.has (trees_of arrivals)
      → after_all terms (made plan) (take n acts) (begun (known plan) arrivals) ≡ Some before → SaysFirst (run m draw acts (map (honest m atoms) (known plan)) (map (honest m atoms) arrivals)) (map (honest m atoms) before.sent)
  sends atoms draw arrivals n before values formed comes =
      let of = honest m atoms in
      let init = map of (known plan) in
      let xs = map of arrivals in
      let verified = takes_ready m.has acts 0 (length (known plan)) g.taking in
      let went = all_went m lawful agrees atoms values.values (made plan) made_formed (take n acts) (begun (known plan) arrivals) before known_formed formed (ready_before m.has acts n (length (known plan)) verified) comes in
      let drawn : (i : ℕ) (x : Text) → slice_get (map of (made plan)) i ≡ Some x → draw i ≡ x = λ i x e. (let b = mapped_back of (made plan) i x e in values.drawn i b.0 b.1 ∙ b.2) in
      let says = sends_first m (map of (made plan)) draw drawn (take n acts) (drop n acts) init xs (seen m lawful agrees atoms values.values before) went.valued in
      let long : length init ≡ length (known plan) = length-map (known plan) of in
      let same = exec_is_run m lawful draw acts init xs (subst (HasTakes m.has acts 0) (sym long) g.taking) in
      (says.0, sym (ap (λ (q : Played Text). q.sent) same) ∙ ap (λ l. (exec m draw l init 0 0 0 xs).sent) (sym (take-append-drop n acts)) ∙ says.1)

  -- and as many as the plan says there
  as_many : (arrivals : List Tree) (n : ℕ) (before : Progress Tree) (event : ℕ) → after_all terms (made plan) (take n acts) (begun (known plan) arrivals) ≡ Some before → before.event ≡ event → length before.sent ≡ said_in event (sides plan)
  as_many arrivals n before event comes at =
      let order : Follows (take n acts ++ drop n acts) plan = subst (λ l. Follows l plan) (sym (take-append-drop n acts)) g.fits.order in
      let e : before.event ≡ 0 + event = omega (arith, at) in
      let all : length before.sent ≡ 0 + said_in event (sides plan) = counted (made plan) (take n acts) (drop n acts) plan (start plan) (begun (known plan) arrivals) before event order comes e in
      omega (arith, all)

-- what is heard along the first events of the partner's plan
heard_known : (ts : List Tree) (es : List PlanEvent) → heard (map event_of (map to_know ts ++ es)) ≡ heard (map event_of es)
heard_known [] es = refl
heard_known (t ∷ ts) es = heard_known ts es

heard_handed : (ts : List Tree) (es : List PlanEvent) → heard (map event_of (map (to_receive 0) ts ++ es)) ≡ ts ++ heard (map event_of es)
heard_handed [] es = refl
heard_handed (t ∷ ts) es = ap (λ l. t ∷ l) (heard_handed ts es)

-- ---- the partner of an attempt

-- where a value is made wrong, its plan is what it knows, what it is handed, and the mirrored plan of the role with that value
pub partner_mirrors : (s : Script) (right : Tree) → s.right ≡ Some right → map event_of (partner_plan s) ≡ map event_of (map to_know (known_by s.protocol s.role) ++ (map (to_receive 0) (handed_terms s.protocol s.role)
    ++ mirrored (length s.protocol.atoms) (Some right) 1 (plan_of s.protocol s.role) s.arrivals s.messages))
partner_mirrors s right is =
    ap (map event_of) (plan_apart s)
    ∙ ap (λ r. map event_of (map to_know (known_by s.protocol s.role) ++ (map (to_receive 0) (handed_terms s.protocol s.role) ++ mirrored (length s.protocol.atoms) r 1 (plan_of s.protocol s.role) s.arrivals s.messages))) is

-- and it is made wrong where the plan says
pub hooked_at : (a : Attempt) (is : IsAttempt a) (right : Tree) → a.script.right ≡ Some right
    → IsAt (Some right) (hook_of is.converses.talks.hooked) (lines_before (length a.script.protocol.atoms) 0 (plan_of a.script.protocol a.script.role) a.script.arrivals) 0 (length a.conversation.lines)
hooked_at a is right right_is =
    let before = lines_before (length a.script.protocol.atoms) 0 (plan_of a.script.protocol a.script.role) a.script.arrivals in
    is_at right before a.at a.wrong a.conversation.lines is.converses.talks.hooked (is.hook ∙ ap (option_and_then (λ (t : Tree). before)) right_is) is.converses.talks.is_hooked

-- its lines are what it is handed, and then this talk
module _ (a : Attempt) (is : IsAttempt a) (law : PartnersPlay a.script.protocol) (talk : List TranscriptLine) (own_is : own a is law ≡ map In a.handed ++ talk) where
  pub own_arrivals : (xs : List Text) → a.handed ≡ xs → arrivals_of (own a is law) ≡ xs ++ arrivals_of talk
  own_arrivals xs hands = ap arrivals_of own_is ∙ arrivals_handed a.handed talk ∙ ap (λ l. l ++ arrivals_of talk) hands

  pub own_messages : messages_of (own a is law) ≡ messages_of talk
  own_messages = ap messages_of own_is ∙ messages_handed a.handed talk

  -- its run over them is a play of its plan
  pub partner_plays_them : (xs : List Text) → a.handed ≡ xs
      → Play (meaning_of a.script.protocol) (draw_of (replicate 32 0) 0) (map event_of (partner_plan a.script)) a.initial (xs ++ arrivals_of talk) (without_place (R a is law (arrivals_of (own a is law))))
  partner_plays_them xs hands =
      subst (λ l. Play (meaning_of a.script.protocol) (draw_of (replicate 32 0) 0) (map event_of (partner_plan a.script)) a.initial l (without_place (R a is law (arrivals_of (own a is law))))) (own_arrivals xs hands)
      (partner_plays a is law (arrivals_of (own a is law)) (arrive a is law))

  -- that says first what they say
  pub partner_says_them : SaysFirst (without_place (R a is law (arrivals_of (own a is law)))) (messages_of talk)
  partner_says_them =
      let says = says_all (R a is law) (λ xs more. run_grows (byte_meaning a.code.formats a.code.suite) (draw_of (replicate 32 0) 0) (acts_of a.code) a.initial xs more) (own a is law) is.converses.talks.due in
      (says.0, says.1 ∙ ap (λ l. l ++ says.0) own_messages)

-- ---- an attempt

-- an attempt in a scene in which a value is made wrong
pub record IsChanged (a : Attempt) (acts : List Act) : Type 0 where
  pub is : IsAttempt a
  pub law : PartnersPlay a.script.protocol
  pub base : Grounds a.script.protocol a.script.role acts
  pub names : AreOfNames a.script.protocol a.script.role a.initial a.handed
  pub changes : Changes a.script

-- where the role draws this
module _ (a : Attempt) (acts : List Act) (s : IsChanged a acts) (d : ℕ → Text) (drawn : (i : ℕ) → IsBytes (d i)) where
  abbrev p : ProtocolValue
  p = a.script.protocol

  abbrev role : ℕ
  role = a.script.role

  abbrev by_bytes : Meaning Text
  by_bytes = meaning_of a.script.protocol

  abbrev events : List Event
  events = events_of a.script.protocol a.script.role

  abbrev spare : ℕ
  spare = length a.script.protocol.atoms

  abbrev lines : List TranscriptLine
  lines = a.conversation.lines

  abbrev is : IsAttempt a
  is = s.is

  abbrev law : PartnersPlay a.script.protocol
  law = s.law

  abbrev g : Grounds a.script.protocol a.script.role acts
  g = s.base

  abbrev ch : Changes a.script
  ch = s.changes

  abbrev atoms : ℕ → Text
  atoms = s.names.atoms

  -- with this wrong value
  abbrev names : Text → ℕ → Text
  names wrong n = named a.script.protocol a.script.role d s.names.atoms wrong n

  pub names_bytes : (wrong : Text) → IsBytes wrong → (n : ℕ) → IsBytes (named a.script.protocol a.script.role d s.names.atoms wrong n)
  names_bytes wrong is_bytes = named_bytes p role g.ours d atoms wrong s.names.bytes drawn is_bytes

  pub values : (wrong : Text) → IsBytes wrong → AreValuesOf (meaning_of a.script.protocol) (events_of a.script.protocol a.script.role) (named a.script.protocol a.script.role d s.names.atoms wrong) d
  values wrong is_bytes = record { values = λ n. is_bytes-IsBytes (names wrong n) (names_bytes wrong is_bytes n); drawn = draws_named p role g.ours d atoms wrong }

  draws_are : (i : ℕ) → IsTrue (by_bytes.is_value (d i))
  draws_are i = is_bytes-IsBytes (d i) (drawn i)

  pub knows : (wrong : Text) → a.initial ≡ map (honest (meaning_of a.script.protocol) (named a.script.protocol a.script.role d s.names.atoms wrong)) (known (events_of a.script.protocol a.script.role))
  knows wrong = s.names.begins ∙ sym (knows_named p role g.ours d atoms wrong) ∙ ap (map (honest by_bytes (names wrong))) (sym (role_known p role))

  -- the bytes of a term, and the run over those of the scene's arrivals
  abbrev pub with_value : Text → Tree → Text
  with_value v t = honest (meaning_of a.script.protocol) (named a.script.protocol a.script.role d s.names.atoms v) t

  abbrev pub run_with : Text → Played Text
  run_with v = without_place (run (meaning_of a.script.protocol) d acts a.initial (map (honest (meaning_of a.script.protocol) (named a.script.protocol a.script.role d s.names.atoms v)) a.script.arrivals))

  pub play : (v : Text) → IsBytes v → Play (meaning_of a.script.protocol) d (events_of a.script.protocol a.script.role) a.initial (map (honest (meaning_of a.script.protocol) (named a.script.protocol a.script.role d s.names.atoms v)) a.script.arrivals) (run_with v)
  play v is_bytes = played p role acts g (names v) d a.initial a.script.arrivals (values v is_bytes) draws_are (knows v) ch.arrivals_formed

  -- ---- with the wrong value that was made

  abbrev o : Option Hooked
  o = s.is.converses.talks.hooked

  abbrev pub wrong : Text
  wrong = wrong_of s.is.converses.talks.hooked

  pub wrong_is : IsBytes (wrong_of s.is.converses.talks.hooked)
  wrong_is = wrong_bytes a.at a.wrong lines o is.converses.talks.is_hooked

  -- the bytes of a term
  abbrev pub of : Tree → Text
  of t = honest (meaning_of a.script.protocol) (named a.script.protocol a.script.role d s.names.atoms (wrong_of s.is.converses.talks.hooked)) t

  pub val : AreValuesOf by_bytes events (named a.script.protocol a.script.role d s.names.atoms (wrong_of s.is.converses.talks.hooked)) d
  val = values wrong wrong_is

  -- ---- where the code comes to an event

  module _ (event : ℕ) (to : ComesTo a.script acts event) where
    -- as many messages are in the scene before it as the plan has there
    pub sent_count : length to.before.sent ≡ said_in event (sides (events_of a.script.protocol a.script.role))
    sent_count = as_many p role acts g a.script.arrivals to.count to.before event to.comes to.at

    -- these of the run are the scene's
    pub said_right : (messages : List Text) → SaysFirst (run_with wrong) messages → length messages ≤ length to.before.sent → Are of messages a.script.messages
    said_right messages says few =
        let first = sends p role acts g (named a.script.protocol a.script.role d s.names.atoms wrong) d a.script.arrivals to.count to.before val ch.arrivals_formed to.comes in
        let same : run by_bytes d acts a.initial (map of a.script.arrivals) ≡ run by_bytes d acts (map of (known events)) (map of a.script.arrivals) = ap (λ l. run by_bytes d acts l (map of a.script.arrivals)) (knows wrong) in
        let both : messages ++ says.0 ≡ map of to.before.sent ++ first.0 = sym says.1 ∙ ap (λ (q : Played Text). q.sent) same ∙ first.1 in
        subst (Are of messages) (sym to.says) (are_more of messages to.before.sent to.more (are_first of messages says.0 to.before.sent first.0 both few))

  -- where it says the scene's messages alone, so are these of the run
  pub said_along : SaysAlong a.script acts → (messages : List Text) → SaysFirst (run_with wrong) messages → Are of messages a.script.messages
  said_along along messages says =
      let all = along (named a.script.protocol a.script.role d s.names.atoms wrong) d val in
      let same : run by_bytes d acts (map of (known events)) (map of a.script.arrivals) ≡ run by_bytes d acts a.initial (map of a.script.arrivals) = ap (λ l. run by_bytes d acts l (map of a.script.arrivals)) (sym (knows wrong)) in
      are_part of messages says.0 a.script.messages (subst (λ l. Are of l a.script.messages) (ap (λ (q : Played Text). q.sent) same ∙ says.1) all)

  -- ---- the partner

  abbrev own_es : List PlanEvent
  own_es = plan_of a.script.protocol a.script.role

  abbrev hs : List Tree
  hs = handed_terms a.script.protocol a.script.role

  abbrev ks : List Tree
  ks = known_by a.script.protocol a.script.role

  abbrev partner : List Event
  partner = map event_of (partner_plan a.script)

  abbrev mirror : List PlanEvent
  mirror = mirrored spare (Some ch.right) 1 own_es a.script.arrivals a.script.messages

  abbrev talk : List TranscriptLine
  talk = talked (right_of o) wrong (hook_of o) lines

  partner_is : partner ≡ map event_of (map to_know ks ++ (map (to_receive 0) hs ++ mirror))
  partner_is = partner_mirrors a.script ch.right ch.right_is

  pub partner_begins : a.initial ≡ map of (known_by a.script.protocol a.script.role)
  partner_begins = s.names.begins ∙ sym (knows_named p role g.ours d atoms wrong)

  partner_hands : a.handed ≡ map of hs
  partner_hands = s.names.hands ∙ sym (hands_named p role g.ours d atoms wrong)

  own_is : own a is law ≡ map In a.handed ++ talk
  own_is = own_talked a.handed o lines

  abbrev q : Played Text
  q = without_place (R a is law (arrivals_of (own a is law)))

  came : arrivals_of (own a is law) ≡ map of hs ++ arrivals_of talk
  came = own_arrivals a is law talk own_is (map of hs) partner_hands

  partner_plays_it : Play by_bytes (draw_of (replicate 32 0) 0) partner a.initial (map of hs ++ arrivals_of talk) q
  partner_plays_it = partner_plays_them a is law talk own_is (map of hs) partner_hands

  partner_says : SaysFirst q (messages_of talk)
  partner_says = partner_says_them a is law talk own_is

  pub own_agrees : HonestAgree by_bytes
  own_agrees = agrees p role acts g

  pub knows_formed : AreFormed (has_operator a.script.protocol.formats) (trees_of (known_by a.script.protocol a.script.role))
  knows_formed = formed_list p ks (all_known (IsTermOf p) p.knows role g.ours.knows)

  pub hands_formed : AreFormed (has_operator a.script.protocol.formats) (trees_of (handed_terms a.script.protocol a.script.role))
  hands_formed = formed_list p hs (handed_ours p role g.ours)

  at_hook : IsAt (Some ch.right) (hook_of o) (lines_before spare 0 own_es a.script.arrivals) 0 (length lines)
  at_hook = hooked_at a is ch.right ch.right_is

  -- ---- line by line

  -- what came in the first lines are the bytes of what should
  abbrev pub Came : ℕ → Type 0
  Came k = Right by_bytes own_agrees (draw_of (replicate 32 0) 0) (named a.script.protocol a.script.role d s.names.atoms wrong) val.values spare (right_of o) wrong (sym (named_spare p role g.ours d atoms wrong)) (Some ch.right) (hook_of o) a.script.arrivals lines k

  -- that is so of so many lines as the role says what it should
  module _ (n : ℕ) (said : (k : ℕ) → k ≤ n → Came k → Are of (messages_of (take k lines)) a.script.messages) where
    pub claims : (k : ℕ) → k ≤ n → Came k
    claims zero few = none_first by_bytes own_agrees (draw_of (replicate 32 0) 0) (named a.script.protocol a.script.role d s.names.atoms wrong) val.values spare (right_of o) wrong (sym (named_spare p role g.ours d atoms wrong)) (Some ch.right) (hook_of o) a.script.arrivals lines
    claims (suc k) few =
        let less : k ≤ n = omega (arith, few) in
        let reached = play_reaches by_bytes own_agrees (draw_of (replicate 32 0) 0) (named a.script.protocol a.script.role d s.names.atoms wrong) val.values ks hs mirror a.initial (arrivals_of talk) q partner partner_is
        (subst (λ ts. AreFormed by_bytes.has (trees_of ts)) (sym (partner_known a.script)) knows_formed) hands_formed (partner_begins ∙ ap (map of) (sym (partner_known a.script))) partner_plays_it in
        speaks_right by_bytes own_agrees (draw_of (replicate 32 0) 0) (named a.script.protocol a.script.role d s.names.atoms wrong) val.values spare (right_of o) wrong (sym (named_spare p role g.ours d atoms wrong))
        1 0 (Some ch.right) (hook_of o) own_es a.script.arrivals a.script.messages lines k reached.0 reached.1 0 q partner_says.0 is.whole.heard_all is.whole.said_all reached.2 ch.messages_formed
        at_hook (placed a is law) (said k less (claims k less)) partner_says.1 reached.3

  -- where it says all that it should, what the partner hears are the bytes of its terms
  pub partner_hears : Are of (messages_of a.conversation.lines) a.script.messages → Are of (arrivals_of (own a s.is s.law)) (heard (map event_of (partner_plan a.script)))
  partner_hears said =
      let there = hears_right by_bytes own_agrees (draw_of (replicate 32 0) 0) (named a.script.protocol a.script.role d s.names.atoms wrong) val.values spare (right_of o) wrong (sym (named_spare p role g.ours d atoms wrong))
      1 0 (Some ch.right) (hook_of o) own_es a.script.arrivals a.script.messages lines is.whole.heard_all is.whole.said_all at_hook (placed a is law) said in
      let all = are_behind of hs (arrivals_of talk) (heard (map event_of mirror)) there in
      let terms_are : heard partner ≡ hs ++ heard (map event_of mirror) = ap heard partner_is ∙ heard_known ks (map (to_receive 0) hs ++ mirror) ∙ heard_handed hs mirror in
      subst (λ xs. Are of xs (heard partner)) (sym came) (subst (Are of (map of hs ++ arrivals_of talk)) (sym terms_are) all)
