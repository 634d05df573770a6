-- Which registers of a code bring parts of arrivals, and which are opened, compared and built again.
use Rattle.std.specs.Prelude.{ℕ, ◌+◌, ◌&&◌, List, [], ◌∷◌, ◌++◌, Bool, true, false, not, nat_eq, filter, if◌then◌else◌}
use Rattle.std.specs.List.{flat_map, list_any, range_with_len}
use Rattle.anb_format.specs.Formats.{FormatValue}
use Rattle.anb_code.specs.declared.instr.Instr.{Instr}
use Rattle.anb_code.specs.declared.instr.Instr.TheVariants.{Recv, Hash, Mac, Seal, Unseal, Wrap, Unwrap, Build, Parse, Equal, Send}
use Rattle.anb_code.specs.Registers.{count_written}
use Rattle.anb_code.specs.Verified.{count_registers}

abbrev pub is_among : List ℕ → ℕ → Bool
is_among ns n = list_any (λ m. nat_eq m n) ns

abbrev pub is_message : Instr → Bool
is_message Recv = true
is_message (Send r) = true
is_message instr = false

-- it writes an arrival, or parts of something
abbrev pub brings : Instr → Bool
brings Recv = true
brings (Unseal k c) = true
brings (Unwrap k d c) = true
brings (Parse f r) = true
brings instr = false

-- it builds a value of registers
abbrev pub builds : Instr → Bool
builds (Hash r) = true
builds (Mac k b) = true
builds (Seal k b) = true
builds (Wrap k d b) = true
builds (Build f rs) = true
builds instr = false

-- the keys with which it opens
abbrev pub keys_of : Instr → List ℕ
keys_of (Unseal k c) = k ∷ []
keys_of (Unwrap k d c) = k ∷ d ∷ []
keys_of instr = []

-- what it opens or takes apart
abbrev pub opened_by : Instr → List ℕ
opened_by (Unseal k c) = c ∷ []
opened_by (Unwrap k d c) = c ∷ []
opened_by (Parse f r) = r ∷ []
opened_by instr = []

-- what it compares
abbrev pub compared : Instr → List ℕ
compared (Equal a b) = a ∷ b ∷ []
compared instr = []

abbrev pub opened : List Instr → List ℕ
opened instrs = flat_map opened_by instrs

-- what stands in a list more than once
abbrev pub repeated : List ℕ → List ℕ
repeated [] = []
repeated (n ∷ ns) = repeated ns ++ (if is_among ns n then n ∷ [] else [])

-- what it builds of
abbrev pub built_of : Instr → List ℕ
built_of (Hash r) = r ∷ []
built_of (Mac k b) = k ∷ b ∷ []
built_of (Seal k b) = k ∷ b ∷ []
built_of (Wrap k d b) = k ∷ d ∷ b ∷ []
built_of (Build f rs) = rs
built_of instr = []

-- what it checks: one of the two, which have one term
abbrev pub checked_by : Instr → List ℕ
checked_by (Equal a b) = b ∷ []
checked_by instr = []

module _ (formats : List FormatValue) where
  -- the registers that an instruction writes, where the first one is this one
  abbrev pub writes_at : ℕ → Instr → List ℕ
  writes_at next x = range_with_len next (count_written formats x)

  -- those that such instructions write
  abbrev pub written_by : (Instr → Bool) → ℕ → List Instr → List ℕ
  written_by test next [] = []
  written_by test next (x ∷ xs) = (if test x then writes_at next x else []) ++ written_by test (next + count_written formats x) xs

  -- registers, and what these are built of, from the last instruction back
  abbrev pub with_operands : List ℕ → ℕ → List Instr → List ℕ
  with_operands some next [] = some
  with_operands some next (x ∷ xs) =
      let later = with_operands some (next + count_written formats x) xs in
      later ++ (if is_among later next then built_of x else [])

  -- registers, and the parts of these as far as they are taken apart
  abbrev pub parts_of : List ℕ → ℕ → Instr → List ℕ
  parts_of some next x = if list_any (is_among some) (opened_by x) then writes_at next x else []

  abbrev pub with_parts : List ℕ → ℕ → List Instr → List ℕ
  with_parts some next [] = some
  with_parts some next (x ∷ xs) = with_parts (some ++ parts_of some next x) (next + count_written formats x) xs

  -- arrivals, and parts of what is taken apart
  abbrev pub brought : List Instr → List ℕ
  brought instrs = written_by brings 0 instrs

  -- it was brought and is opened once: where other parts are put into it, only these change
  abbrev pub is_envelope : List Instr → ℕ → Bool
  is_envelope instrs r = is_among (brought instrs) r && not (is_among (repeated (opened instrs)) r)

  abbrev pub is_no_envelope : List Instr → ℕ → Bool
  is_no_envelope instrs r = not (is_envelope instrs r)

  -- keys, what is compared, and what is opened and is no envelope
  abbrev pub asked : List Instr → List ℕ
  asked instrs = flat_map keys_of instrs ++ (flat_map compared instrs ++ filter (is_no_envelope instrs) (opened instrs))

  -- what is looked at as a whole: what is asked, what that is built of, and all parts of these
  abbrev pub seen : List Instr → List ℕ
  seen instrs = with_parts (with_operands (asked instrs) 0 instrs) 0 instrs

  -- An arrival, or a part of one, that is neither opened nor looked at as a whole: it is no key, isn't compared, and is
  -- neither built into such a thing nor a part of one. Parts of what a role knew are looked at with it.
  abbrev pub is_unchecked : List Instr → ℕ → Bool
  is_unchecked instrs r = is_among (brought instrs) r && (not (is_among (opened instrs) r) && not (is_among (seen instrs) r))

  -- in the order of writing
  abbrev pub unchecked : List Instr → List ℕ
  unchecked instrs = filter (is_unchecked instrs) (range_with_len 0 (count_registers formats instrs))

abbrev pub is_other : List ℕ → ℕ → Bool
is_other some n = not (is_among some n)

abbrev pub without : List ℕ → List ℕ → List ℕ
without some all = filter (is_other some) all
