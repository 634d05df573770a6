-- A report is that of all cases.
use Rattle.std.proofs.Common.{◌≡◌, ◌⊎◌, ℕ, List, length, true, Option, Some, None, refl, sym, ◌∙◌, subst, inl, inr}
use Rattle.anb_base.specs.Wires.{WireState}
use Rattle.anb_partner.specs.Trials.{Trial}
use Rattle.anb_partner.specs.declared.planning.PartnerNo.{PartnerNo}
use Rattle.anb_partner.specs.declared.planning.PartnerNo.TheVariants as no
use Rattle.anb_status.specs.declared.status.Status.{Status}
use Rattle.anb_status.specs.declared.status.Status.TheVariants as status
use Rattle.anb_status.specs.Statuses.{phase_of, after_reach, before_reach}
use Rattle.anb_command.specs.Fetches.{Files}
use Rattle.anb_probe_commands.specs.Cases.{is_beyond}
use Rattle.anb_probe_commands.specs.Probings.{Probing}
use Rattle.anb_probe_commands.specs.ProbeCommand.{Asks, IsBeyond, IsHonestNo, IsProbed, IsReported, RefusesHonest, Suit, agenda_of}
use Rattle.anb_probe_commands.specs.Words.{Probed}
use Rattle.anb_probed.specs.Laws.{IsNoCase, IsPlayedWhole, IsReport, ReportsArePlayed}

module _ (asked : Probed) (files : Files) (host_seed : Option (List ℕ)) (old new : ℕ → Trial) (S T : WireState) where
  abbrev Comes : Status → Type 0
  Comes s = IsPlayedWhole asked files old new s ⊎ IsNoCase asked old new

  there_none : (case : Option ℕ) (count : ℕ) → is_beyond case count ≡ true → (number : ℕ) × (case ≡ Some number)
  there_none None count beyond = absurd (cc)
  there_none (Some n) count beyond = (n, refl)

  beyond : (q : Probing) (suit : Suit q asked.trying) (s : Status) → IsBeyond q asked.trying (agenda_of suit) asked.role old new S.written T.written s → IsNoCase asked old new
  beyond q suit s is =
      let number = there_none asked.trying.case (agenda_of suit).count is.beyond in
      record { number = number.0; asked_for = number.1; unstarted = is.unstarted }

  whole : (q : Probing) → Asks asked (Some files) host_seed old new S T files q → (suit : Suit q asked.trying) (s : Status) → IsReported q asked.trying (agenda_of suit) asked.role old new S.written T.written s → IsPlayedWhole asked files old new s
  whole q asks suit s is = record {
    protocol = q.protocol;
    ends = is.ends;
    played = record {
      asked = asked;
      files = files;
      host_seed = host_seed;
      q = q;
      asks = asks;
      protocol = refl;
      suit = suit;
      reached = is.reached;
      last = length is.ends;
      played = is.played;
    };
    asked_is = refl;
    files_are = refl;
    all = is.all;
    is = is.is;
  }

  either : (q : Probing) → Asks asked (Some files) host_seed old new S T files q → (suit : Suit q asked.trying) (s : Status)
      → IsReported q asked.trying (agenda_of suit) asked.role old new S.written T.written s ⊎ IsBeyond q asked.trying (agenda_of suit) asked.role old new S.written T.written s → Comes s
  either q asks suit s (inl is) = inl (whole q asks suit s is)
  either q asks suit s (inr is) = inr (beyond q suit s is)

  -- nothing is refused with these
  is_after : (s : Status) → phase_of s ≡ after_reach → phase_of s ≡ before_reach → ⊥
  is_after s after before = (let never : after_reach ≡ before_reach = sym after ∙ before in cc)

  done_sent : (q : Probing) (why : PartnerNo) → IsHonestNo q.protocol q.role why status.Done → ⊥
  done_sent q (no.CannotSend line) is = (let never : status.Done ≡ status.CannotSend is.0 is.1 = is.3 in cc)
  done_sent q no.Large is = cc
  done_sent q no.NoMemory is = cc

  failed_sent : (q : Probing) (failed cases : ℕ) (why : PartnerNo) → IsHonestNo q.protocol q.role why (status.CasesNotOk failed cases) → ⊥
  failed_sent q failed cases (no.CannotSend line) is = (let never : status.CasesNotOk failed cases ≡ status.CannotSend is.0 is.1 = is.3 in cc)
  failed_sent q failed cases no.Large is = cc
  failed_sent q failed cases no.NoMemory is = cc

  done : IsProbed asked (Some files) host_seed old new S T files status.Done → Comes status.Done
  done (inl e) = absurd (by e.early) where
    by : (phase_of status.Done ≡ before_reach) ⊎ (status.Done ≡ status.NoMemory) → ⊥
    by (inl before) = is_after status.Done refl before
    by (inr is) = cc
  done (inr (inl l)) = absurd (by l.refuses) where
    by : RefusesHonest l.q asked.trying status.Done ⊎ (status.Done ≡ status.NoMemory) → ⊥
    by (inl r) = done_sent l.q r.why r.is
    by (inr is) = cc
  done (inr (inr t)) = either t.q t.asks t.suit status.Done t.comes

  failed : (n cases : ℕ) → IsProbed asked (Some files) host_seed old new S T files (status.CasesNotOk n cases) → Comes (status.CasesNotOk n cases)
  failed n cases (inl e) = absurd (by e.early) where
    by : (phase_of (status.CasesNotOk n cases) ≡ before_reach) ⊎ (status.CasesNotOk n cases ≡ status.NoMemory) → ⊥
    by (inl before) = is_after (status.CasesNotOk n cases) refl before
    by (inr is) = cc
  failed n cases (inr (inl l)) = absurd (by l.refuses) where
    by : RefusesHonest l.q asked.trying (status.CasesNotOk n cases) ⊎ (status.CasesNotOk n cases ≡ status.NoMemory) → ⊥
    by (inl r) = failed_sent l.q n cases r.why r.is
    by (inr is) = cc
  failed n cases (inr (inr t)) = either t.q t.asks t.suit (status.CasesNotOk n cases) t.comes

  pub comes : (s : Status) → IsProbed asked (Some files) host_seed old new S T files s → IsReport s → Comes s
  comes s is (inl e) = subst Comes (sym e) (done (subst (IsProbed asked (Some files) host_seed old new S T files) e is))
  comes s is (inr (n, cases, e)) = subst Comes (sym e) (failed n cases (subst (IsProbed asked (Some files) host_seed old new S T files) e is))

pub report_played : ReportsArePlayed
report_played asked files host_seed old new S T s does is = comes asked files host_seed old new S T s does.probes is
