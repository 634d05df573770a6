-- for proofs alone: a host's value by what it keeps.
use Rattle.std.specs.Prelude.{◌≡◌, ℕ, ◌≤◌, List, [], length, true, false}
use Rattle.std.specs.List.{All}
use Rattle.anb_base.specs.declared.TheConstants.{ARRIVAL}
use Rattle.anb_code.specs.Taking.{take_texts}
use Rattle.anb_plays.specs.Plays.{Played, SendsFirst}
use Rattle.anb_machine.specs.Machines.{gives, waits}
use Rattle.anb_host.specs.declared.session.Session.{Session}
use Rattle.anb_host.specs.declared.session.Session.TheVariants.{Unstarted, Running, Over}
use Rattle.anb_host.specs.declared.host.Host.TheInside.{Inside}
use Rattle.anb_host.specs.Hosts.{HostValue}
use Rattle.anb_host.specs.Own.{is_over}

abbrev pub host_of : Inside → HostValue
host_of h = record {
  code = h.code.now;
  init = h.values.items;
  seed = h.seed;
  sessions = h.sessions.items;
  failed = h.failed;
}

-- each machine waits for an arrival
abbrev pub IsWaiting : Session → Type 0
IsWaiting (Running machine) = waits machine ≡ true
IsWaiting _ = Unit {0}

pub record IsWhole (h : Inside) : Type 0 where
  pub takes : length h.values.items ≡ length (take_texts h.code.now.instrs)
  pub fit : All (λ value. length value ≤ ARRIVAL) h.values.items
  pub many : length h.sessions.items ≡ 1024
  pub waiting : All IsWaiting h.sessions.items

-- what is kept of a session that gave what comes over no more arrivals
abbrev pub Settled : (List (List ℕ) → Played (List ℕ)) → Session → Type 0
Settled coming Unstarted = ⊥
Settled coming (Running machine) =
    (is_over (coming []).end ≡ false)
    × ((more : List (List ℕ)) → SendsFirst (coming more) (coming []).sent (gives machine more))
Settled coming Over = is_over (coming []).end ≡ true
