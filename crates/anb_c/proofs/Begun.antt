-- What opening a session leaves.
use Rattle.std.proofs.Common.{◌≡◌, ◌≢◌, ◌⊎◌, inl, inr, ℤ, pos, to_z, of_z, w32, ap, Bool, true, false, Option, Some, None, refl, sym, ◌∙◌, subst}
use Rattle.anb_c.specs.Holding.{is_some}
use Rattle.anb_c.specs.Opening.{IsOpening, status_of}
use Rattle.anb_c.specs.declared.opening.OpenNo.{OpenNo}
use Rattle.anb_c.specs.declared.opening.OpenNo.TheVariants.{Misused, RoleLong, Role, ValuesLong, Values, NoSeed, Record, NoMemory}
use Rattle.anb_c.specs.declared.session.Session.{Session}

pub none_held : (held : Option Session) (live : Bool) → live ≡ is_some held → live ≡ false → held ≡ None
none_held None live tied closed = refl
none_held (Some s) live tied closed = absurd (cc)

pub some_held : (held : Option Session) (live : Bool) → live ≡ is_some held → live ≡ true → held ≢ None
some_held None live tied is_open none = absurd (cc)
some_held (Some s) live tied is_open none = absurd (cc)

-- a status, as it is written into a register and read back
abbrev through : ℤ → ℤ
through z = to_z w32 (of_z w32 z)

pub told : (why : OpenNo) (r : ℤ) → r ≡ pos (status_of why) → through r ≡ pos (status_of why)
told Misused r is = ap through is
told RoleLong r is = ap through is
told (Role cause) r is = ap through is
told ValuesLong r is = ap through is
told (Values cause) r is = ap through is
told NoSeed r is = ap through is
told (Record cause) r is = ap through is
told NoMemory r is = ap through is

pub kept : (Opened : Option Session → Type 0) (Refused : OpenNo → Type 0) (held new : Option Session) (session : Session) (status : ℤ) → held ≡ None → Opened (Some session) → Refused NoMemory
    → ((status ≡ pos 0) × (new ≡ Some session)) ⊎ ((status ≡ pos 99) × (new ≡ None)) → IsOpening Opened Refused held new (through status)
kept Opened Refused held new session status none opens memory (inl (good, there)) = inl (ap through good, none, subst Opened (sym there) opens)
kept Opened Refused held new session status none opens memory (inr (out, gone)) = inr (NoMemory, ap through out, memory, gone ∙ sym none)
