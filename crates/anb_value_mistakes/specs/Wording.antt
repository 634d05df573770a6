-- What is said of a line that isn't of the grammar, and what would mend it.
use Rattle.std.specs.Prelude.{ℕ, List, codes}
use Rattle.anb_value_mistakes.specs.declared.wrong.Wrong.{Wrong}
use Rattle.anb_value_mistakes.specs.declared.wrong.Wrong.TheVariants as wrong

abbrev pub message : Wrong → List ℕ
message wrong.Mark = codes "a byte order mark"
message wrong.Colon = codes "`:` in the place of `=`"
message wrong.NoEquals = codes "no `=`"
message wrong.Name = codes "this byte stands in no name"
message wrong.NoName = codes "no name"
message wrong.NoValue = codes "no value"
message wrong.Prefix = codes "`0x` in the place of `x`"
message wrong.Apostrophe = codes "`'` in the place of `\"`"
message wrong.Bare = codes "a value without quotes"
message wrong.SeedBare = codes "a seed without `x`"
message wrong.SeedLength = codes "a seed that hasn't 64 digits"
message wrong.Digit = codes "no hexadecimal digit"
message wrong.Odd = codes "an odd number of digits"
message wrong.Unclosed = codes "no quote ends this value"
message wrong.Escape = codes "no character is written so"
message wrong.Byte = codes "this byte doesn't stand between quotes"
message wrong.Comment = codes "a comment after a value"
message wrong.Behind = codes "more after a value"

abbrev pub mend : Wrong → List ℕ
mend wrong.Mark = codes "save the file without it"
mend wrong.Colon = codes "a line is a name, `=` and a value"
mend wrong.NoEquals = codes "a line is a name, `=` and a value"
mend wrong.Name = codes "a name has letters, digits, `_`, `(`, `)` and `,`; the seed is `@seed`"
mend wrong.NoName = codes "a line is a name, `=` and a value"
mend wrong.NoValue = codes "a value is text in quotes, or `x` and two digits for each byte"
mend wrong.Prefix = codes "write `x` and two digits for each byte"
mend wrong.Apostrophe = codes "text stands between two `\"`"
mend wrong.Bare = codes "a value is text in quotes, or `x` and two digits for each byte"
mend wrong.SeedBare = codes "a seed is `x` and 64 digits"
mend wrong.SeedLength = codes "a seed is `x` and 64 digits"
mend wrong.Digit = codes "write `x` and two digits for each byte"
mend wrong.Odd = codes "write `x` and two digits for each byte"
mend wrong.Unclosed = codes "a value ends with the quote that it begins with"
mend wrong.Escape = codes "write `\\\"`, `\\\\`, or `\\x` and two digits"
mend wrong.Byte = codes "write `\\x` and two digits"
mend wrong.Comment = codes "a comment stands on a line of its own"
mend wrong.Behind = codes "a line ends with its value"
