-- What a change makes of the bytes of a value.
use Rattle.std.specs.Prelude.{ℕ, ◌-◌, nat_lt, List, [], ◌∷◌, ◌++◌, length, take, drop, map, bit_xor, Option, Some, None, if◌then◌else◌}
use Rattle.anb_spoil.specs.declared.changes.Change.{Change}
use Rattle.anb_spoil.specs.declared.changes.Change.TheVariants.{LastByte, WithoutLast, FirstByte, ByteMore, ZeroInFront}

-- each byte xor 1
abbrev pub xor_one : List ℕ → List ℕ
xor_one bytes = map (λ b. bit_xor b 1) bytes

-- the last byte xor 1
abbrev pub last_changed : List ℕ → List ℕ
last_changed bytes = take (length bytes - 1) bytes ++ xor_one (drop (length bytes - 1) bytes)

-- the first byte xor 1
abbrev pub first_changed : List ℕ → List ℕ
first_changed bytes = xor_one (take 1 bytes) ++ drop 1 bytes

-- what a change makes of bytes; nothing, where it changes a byte and there is none
abbrev pub changed_by : Change → List ℕ → Option (List ℕ)
changed_by LastByte bytes = if nat_lt 0 (length bytes) then Some (last_changed bytes) else None
changed_by WithoutLast bytes = Some (if nat_lt 1 (length bytes) then take (length bytes - 1) bytes else bytes ++ 0 ∷ [])
changed_by FirstByte bytes = if nat_lt 0 (length bytes) then Some (first_changed bytes) else None
changed_by ByteMore bytes = Some (bytes ++ 0 ∷ [])
changed_by ZeroInFront bytes = Some (0 ∷ bytes)
