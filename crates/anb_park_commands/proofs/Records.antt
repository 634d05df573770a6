-- Which records are accepted, by the role's code and by its play.
use Rattle.std.proofs.Common.{ℕ, List, refl, ap, sym, ◌∙◌, subst}
use Rattle.anb_base.specs.Bytes.{IsBytes}
use Rattle.anb_code.specs.CodeValue.{CodeValue}
use Rattle.anb_park.specs.Records.{Accepts, HasSizes, IsNoBody, IsWaiting, Parked, Refuses, count_takes, record_of}
use Rattle.anb_park.specs.declared.resuming.ParkNo.{ParkNo}
use Rattle.anb_park.specs.declared.resuming.ParkNo.TheVariants.{Damaged, Body, Other, NotWaiting, NoMemory}
use Rattle.anb_park.proofs.Bodies.{not_refused, one_cause, records_apart}
use Rattle.anb_protocol.specs.Protocols.{ProtocolValue}
use Rattle.anb_seal.specs.Laws.{GivesBytes, UnsealsExactly}
use Rattle.anb_status.specs.declared.status.Status.TheVariants.{BadRecord}
use Rattle.anb_command.specs.Steps.{refused, given, HasOneAnswer, IsFailure}
use Rattle.anb_command.proofs.Ones.{RefusesQuietly, quiet_as}
use Rattle.anb_park_commands.specs.Going.{HaveBytes, RunsRole, status_of}
use Rattle.anb_park_commands.specs.Records.{RecordIs}
use Rattle.anb_park_commands.specs.Sessions.{WaitsIn, count_known}
use Rattle.anb_park_commands.proofs.Roles.{record_bytes, waits_in_code, waits_in_play}

module _ (p : ProtocolValue) (role : ℕ) (code : CodeValue) (runs : RunsRole p role code) where
  -- a session that waits has a record that is accepted
  pub waiting_accepted : (s : Parked) (key : List ℕ) → HaveBytes s → HasSizes (count_takes code) s → IsWaiting code s → RecordIs p role s.id key (record_of key s) (given s)
  waiting_accepted s key bytes sizes waits = record {
    whole = refl;
    body = record {
      whole = refl;
      sizes = subst (λ (n : ℕ). HasSizes n s) runs.takes sizes;
      own = refl;
      waits = waits_in_play p role code runs s sizes.init bytes waits;
    };
  }

  module _ (gives : GivesBytes) (exact : UnsealsExactly) (id key bytes : List ℕ) (are : IsBytes bytes) where
    pub held_bytes : (s : Parked) → Accepts (count_takes code) (IsWaiting code) id key bytes s → HaveBytes s
    held_bytes s a = record_bytes gives exact key bytes _ s are (sym a.whole) refl

    pub accepted_in_play : (s : Parked) → Accepts (count_takes code) (IsWaiting code) id key bytes s → RecordIs p role id key bytes (given s)
    accepted_in_play s a = record {
      whole = a.whole;
      body = record {
        whole = refl;
        sizes = subst (λ (n : ℕ). HasSizes n s) runs.takes a.body.sizes;
        own = a.body.own;
        waits = waits_in_play p role code runs s a.body.sizes.init (held_bytes s a) a.body.waits;
      };
    }

    pub refused_in_play : (why : ParkNo) → Refuses (count_takes code) (IsWaiting code) id key bytes why → Refuses (count_known p role) (WaitsIn p role) id key bytes why
    refused_in_play Damaged r = r
    refused_in_play Body (m, is, other) = (m, is, subst (λ (n : ℕ). IsNoBody n m) runs.takes other)
    refused_in_play Other (m, is, (s, whole, sizes, other)) = (m, is, (s, whole, subst (λ (n : ℕ). HasSizes n s) runs.takes sizes, other))
    refused_in_play NotWaiting (m, is, (s, whole, sizes, own, still)) = (
      m,
      is,
      (s, whole, subst (λ (n : ℕ). HasSizes n s) runs.takes sizes, own, λ waits. still (waits_in_code p role code runs s sizes.init (record_bytes gives exact key bytes m s are is whole) waits)),
    )
    refused_in_play NoMemory r = tt

    -- a record that isn't gone on from, by its status
    pub record_refused : (why : ParkNo) → Refuses (count_takes code) (IsWaiting code) id key bytes why → IsFailure (status_of why) (λ _. ⊥) (RecordIs p role id key bytes (refused (status_of why)))
    record_refused Damaged r = (Damaged, refl, (λ e. cc), refused_in_play Damaged r)
    record_refused Body r = (Body, refl, (λ e. cc), refused_in_play Body r)
    record_refused Other r = (Other, refl, (λ e. cc), refused_in_play Other r)
    record_refused NotWaiting r = (NotWaiting, refl, (λ e. cc), refused_in_play NotWaiting r)
    record_refused NoMemory r = tt

-- ---- one answer

pub record_one : (p : ProtocolValue) (role : ℕ) (id key bytes : List ℕ) → HasOneAnswer (RecordIs p role id key bytes)
record_one p role id key bytes (refused s) (refused t) (why, is, some, r) (other, js, also, q) =
    ap refused (is ∙ ap BadRecord (one_cause (count_known p role) (WaitsIn p role) id key bytes why other r q some also) ∙ sym js)
record_one p role id key bytes (refused s) (given x) (why, is, some, r) a = absurd (some (not_refused (count_known p role) (WaitsIn p role) id key bytes x why a r))
record_one p role id key bytes (given x) (refused t) a (why, is, some, r) = absurd (some (not_refused (count_known p role) (WaitsIn p role) id key bytes x why a r))
record_one p role id key bytes (given x) (given y) a b = ap given (records_apart (count_known p role) key x y a.body.sizes b.body.sizes (sym a.whole ∙ b.whole))

pub record_quiet : (p : ProtocolValue) (role : ℕ) (id key bytes : List ℕ) → RefusesQuietly (RecordIs p role id key bytes)
record_quiet p role id key bytes = record { each = λ s why. quiet_as s _ why.1 (refl, refl) }
