use Rattle.std.proofs.Common.{◌≡◌, ◌<◌, ◌≤◌, ◌+◌, ◌∷◌, ℕ, List, Option, Some, length, drop, sym, ap, subst, arith}
use Rattle.std.specs.Prelude.{slice_get, MatchOption, false}
use Rattle.std.specs.List.{AllByRecursion}
use Rattle.anb_lemmas.proofs.Results.{on_ok_map}
use Rattle.anb_base.specs.declared.TheConstants.{ARRIVAL, WIDE}
use Rattle.anb_format.specs.Formats.{FormatValue, field_count}
use Rattle.anb_term.proofs.Lists.{slice_get-at}
use Rattle.anb_plays.specs.Codes.{Act, works}
use Rattle.anb_plays.specs.Plans as plays
use Rattle.anb_code.specs.declared.instr.Instr.{Instr}
use Rattle.anb_code.specs.Meaning.{act_of, acts_of}
use Rattle.anb_code.specs.Verified.{HasItsFormat}
use Rattle.anb_protocol.specs.Plays.{events_of}
use Rattle.anb_compile.proofs.Valuing.{few_fields, its_format}
use Rattle.anb_certify.specs.declared.works.Job.{Job}
use Rattle.anb_certify.specs.Certified.{is_work}
use Rattle.anb_certify.specs.Numbered.{value_of}
use Rattle.anb_certify.specs.Walking.{IsAt, Stands}
use Rattle.anb_certify.specs.Works.{work_of}
use Rattle.anb_certify.proofs.Ending.{at_act, events_at, next_there}
use Rattle.anb_certify.proofs.Framing.{does_an_event}
use Rattle.anb_certify.proofs.Results.{if_err}
use Rattle.anb_certify.proofs.certifying.step.Goals as goal

pub job_of-requires-clause-fields : goal.job_of-requires-clause-fields
job_of-requires-clause-fields c =
    let P : List FormatValue → Type 0 = λ l. AllByRecursion (λ (format : FormatValue). field_count format.pieces ≤ 32) l in
    subst P (sym c.formats.ensures.formats) (few_fields ARRIVAL WIDE c.args.code.now c.formats.ensures.verified)

pub job_of-requires-clause-format : goal.job_of-requires-clause-format
job_of-requires-clause-format c =
    let x = c.index-instrs-i.result in
    let i = c.args.i in
    let items = c.instrs.result.now in
    let code = c.args.code.now in
    let within : i < length items = omega (arith, c.requires.within, ap length c.instrs.ensures.instrs) in
    let here = subst (λ (l : List Instr). slice_get l i ≡ Some x) c.instrs.ensures.instrs (slice_get-at items i x within c.index-instrs-i.is) in
    let Q : List FormatValue → Type 0 = λ l. HasItsFormat l x in
    subst Q (sym c.formats.ensures.formats) (its_format ARRIVAL WIDE code i x c.instrs.ensures.verified here)

pub work-requires-clause-stands : goal.work-requires-clause-stands
work-requires-clause-stands c =
    let p = c.args.p.now in
    let role = c.args.role in
    let code = c.args.code.now in
    let x = c.index-instrs-i.result in
    let i = c.args.i in
    let next = c.args.next.now in
    let v = value_of c.args.table.now in
    let items = c.instrs.result.now in
    let within : i < length items = omega (arith, c.requires.within, ap length c.instrs.ensures.instrs) in
    let here = subst (λ (l : List Instr). slice_get l i ≡ Some x) c.instrs.ensures.instrs (slice_get-at items i x within c.index-instrs-i.is) in
    let M : Option Job → Type 0 = λ o. MatchOption o (is_work x ≡ false) (λ job. act_of c.formats.result.now x ≡ works (work_of job)) in
    let act = subst M c.in-Some.is c.in_ok-job.ensures in
    let F : List FormatValue → Type 0 = λ l. act_of l x ≡ works (work_of c.in-Some.job) in
    let W : Act → Type 0 = λ a. Stands p role code (a ∷ drop (i + 1) (acts_of code)) (drop next (events_of p role)) (i + 1) v in
    (p, role, code, drop (i + 1) (acts_of code), drop next (events_of p role), subst W (subst F c.formats.ensures.formats act) (at_act p role code i next v x here c.requires.at))

pub returns-in-Some-clause-at : goal.returns-in-Some-clause-at
returns-in-Some-clause-at c =
    let p = c.args.p.now in
    let role = c.args.role in
    let code = c.args.code.now in
    let x = c.index-instrs-i.result in
    let i = c.args.i in
    let next = c.args.next.now in
    let v = value_of c.args.table.now in
    let items = c.instrs.result.now in
    let within : i < length items = omega (arith, c.requires.within, ap length c.instrs.ensures.instrs) in
    let here = subst (λ (l : List Instr). slice_get l i ≡ Some x) c.instrs.ensures.instrs (slice_get-at items i x within c.index-instrs-i.is) in
    let M : Option Job → Type 0 = λ o. MatchOption o (is_work x ≡ false) (λ job. act_of c.formats.result.now x ≡ works (work_of job)) in
    let act = subst M c.in-Some.is c.in_ok-job.ensures in
    let F : List FormatValue → Type 0 = λ l. act_of l x ≡ works (work_of c.in-Some.job) in
    let W : Act → Type 0 = λ a. Stands p role code (a ∷ drop (i + 1) (acts_of code)) (drop next (events_of p role)) (i + 1) v in
    let s = subst W (subst F c.formats.ensures.formats act) (at_act p role code i next v x here c.requires.at) in
    on_ok_map c.work.result (λ f. f p role code (drop (i + 1) (acts_of code)) (drop next (events_of p role)) s) c.work.ensures.stands

pub returns-in-Some-clause-refused : goal.returns-in-Some-clause-refused
returns-in-Some-clause-refused c =
    let p = c.args.p.now in
    let role = c.args.role in
    let code = c.args.code.now in
    let x = c.index-instrs-i.result in
    let i = c.args.i in
    let next = c.args.next.now in
    let v = value_of c.args.table.now in
    let items = c.instrs.result.now in
    let within : i < length items = omega (arith, c.requires.within, ap length c.instrs.ensures.instrs) in
    let here = subst (λ (l : List Instr). slice_get l i ≡ Some x) c.instrs.ensures.instrs (slice_get-at items i x within c.index-instrs-i.is) in
    let M : Option Job → Type 0 = λ o. MatchOption o (is_work x ≡ false) (λ job. act_of c.formats.result.now x ≡ works (work_of job)) in
    let act = subst M c.in-Some.is c.in_ok-job.ensures in
    let F : List FormatValue → Type 0 = λ l. act_of l x ≡ works (work_of c.in-Some.job) in
    let W : Act → Type 0 = λ a. Stands p role code (a ∷ drop (i + 1) (acts_of code)) (drop next (events_of p role)) (i + 1) v in
    let s = subst W (subst F c.formats.ensures.formats act) (at_act p role code i next v x here c.requires.at) in
    if_err c.work.result (λ e f. f p role code (drop (i + 1) (acts_of code)) (drop next (events_of p role)) s) c.work.ensures.refused

pub next_event-requires : goal.next_event-requires
next_event-requires c =
    let p = c.args.p.now in
    let role = c.args.role in
    let code = c.args.code.now in
    let x = c.index-instrs-i.result in
    let i = c.args.i in
    let next = c.args.next.now in
    let v = value_of c.args.table.now in
    let items = c.instrs.result.now in
    let events = c.args.events.now in
    let within : i < length items = omega (arith, c.requires.within, ap length c.instrs.ensures.instrs) in
    let here = subst (λ (l : List Instr). slice_get l i ≡ Some x) c.instrs.ensures.instrs (slice_get-at items i x within c.index-instrs-i.is) in
    let M : Option Job → Type 0 = λ o. MatchOption o (is_work x ≡ false) (λ job. act_of c.formats.result.now x ≡ works (work_of job)) in
    let kind : is_work x ≡ false = subst M c.in-None.is c.in_ok-job.ensures in
    let s = at_act p role code i next v x here c.requires.at in
    let below = next_there p role code (act_of code.formats x) (drop (i + 1) (acts_of code)) events next (i + 1) v c.requires.plan (does_an_event code.formats x kind) s in
    below

pub meet-requires-clause-stands : goal.meet-requires-clause-stands
meet-requires-clause-stands c =
    let p = c.args.p.now in
    let role = c.args.role in
    let code = c.args.code.now in
    let x = c.index-instrs-i.result in
    let i = c.args.i in
    let next = c.args.next.now in
    let v = value_of c.args.table.now in
    let items = c.instrs.result.now in
    let events = c.args.events.now in
    let within : i < length items = omega (arith, c.requires.within, ap length c.instrs.ensures.instrs) in
    let here = subst (λ (l : List Instr). slice_get l i ≡ Some x) c.instrs.ensures.instrs (slice_get-at items i x within c.index-instrs-i.is) in
    let M : Option Job → Type 0 = λ o. MatchOption o (is_work x ≡ false) (λ job. act_of c.formats.result.now x ≡ works (work_of job)) in
    let kind : is_work x ≡ false = subst M c.in-None.is c.in_ok-job.ensures in
    let s = at_act p role code i next v x here c.requires.at in
    let below = next_there p role code (act_of code.formats x) (drop (i + 1) (acts_of code)) events next (i + 1) v c.requires.plan (does_an_event code.formats x kind) s in
    let e = c.next_event.result.now in
    let left = events_at p role events next e c.requires.plan c.next_event.ensures.event in
    let E : List plays.Event → Type 0 = λ l. Stands p role code (act_of code.formats x ∷ drop (i + 1) (acts_of code)) l (i + 1) v in
    let t = subst E left s in
    (p, role, code, drop (i + 1) (acts_of code), drop (next + 1) (events_of p role), t)

pub returns-in-None-clause-at : goal.returns-in-None-clause-at
returns-in-None-clause-at c =
    let p = c.args.p.now in
    let role = c.args.role in
    let code = c.args.code.now in
    let x = c.index-instrs-i.result in
    let i = c.args.i in
    let next = c.args.next.now in
    let v = value_of c.args.table.now in
    let items = c.instrs.result.now in
    let events = c.args.events.now in
    let within : i < length items = omega (arith, c.requires.within, ap length c.instrs.ensures.instrs) in
    let here = subst (λ (l : List Instr). slice_get l i ≡ Some x) c.instrs.ensures.instrs (slice_get-at items i x within c.index-instrs-i.is) in
    let M : Option Job → Type 0 = λ o. MatchOption o (is_work x ≡ false) (λ job. act_of c.formats.result.now x ≡ works (work_of job)) in
    let kind : is_work x ≡ false = subst M c.in-None.is c.in_ok-job.ensures in
    let s = at_act p role code i next v x here c.requires.at in
    let below = next_there p role code (act_of code.formats x) (drop (i + 1) (acts_of code)) events next (i + 1) v c.requires.plan (does_an_event code.formats x kind) s in
    let e = c.next_event.result.now in
    let left = events_at p role events next e c.requires.plan c.next_event.ensures.event in
    let E : List plays.Event → Type 0 = λ l. Stands p role code (act_of code.formats x ∷ drop (i + 1) (acts_of code)) l (i + 1) v in
    let t = subst E left s in
    let N : ℕ → Type 0 = λ k. IsAt p role code (i + 1) k (value_of c.meet.new.table) in
    on_ok_map c.meet.result (λ f. subst N (sym c.next_event.ensures.next) (f p role code (drop (i + 1) (acts_of code)) (drop (next + 1) (events_of p role)) t)) c.meet.ensures.stands

pub returns-in-None-clause-refused : goal.returns-in-None-clause-refused
returns-in-None-clause-refused c =
    let p = c.args.p.now in
    let role = c.args.role in
    let code = c.args.code.now in
    let x = c.index-instrs-i.result in
    let i = c.args.i in
    let next = c.args.next.now in
    let v = value_of c.args.table.now in
    let items = c.instrs.result.now in
    let events = c.args.events.now in
    let within : i < length items = omega (arith, c.requires.within, ap length c.instrs.ensures.instrs) in
    let here = subst (λ (l : List Instr). slice_get l i ≡ Some x) c.instrs.ensures.instrs (slice_get-at items i x within c.index-instrs-i.is) in
    let M : Option Job → Type 0 = λ o. MatchOption o (is_work x ≡ false) (λ job. act_of c.formats.result.now x ≡ works (work_of job)) in
    let kind : is_work x ≡ false = subst M c.in-None.is c.in_ok-job.ensures in
    let s = at_act p role code i next v x here c.requires.at in
    let below = next_there p role code (act_of code.formats x) (drop (i + 1) (acts_of code)) events next (i + 1) v c.requires.plan (does_an_event code.formats x kind) s in
    let e = c.next_event.result.now in
    let left = events_at p role events next e c.requires.plan c.next_event.ensures.event in
    let E : List plays.Event → Type 0 = λ l. Stands p role code (act_of code.formats x ∷ drop (i + 1) (acts_of code)) l (i + 1) v in
    let t = subst E left s in
    if_err c.meet.result (λ r f. f p role code (drop (i + 1) (acts_of code)) (drop (next + 1) (events_of p role)) t) c.meet.ensures.refused
