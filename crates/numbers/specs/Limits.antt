-- The limits of 01, each named once.
use Rattle.std.specs.Prelude.{ℕ}

-- bytes of source
abbrev pub max_source : ℕ
max_source = 32768

-- source bytes and the bytes of an entry line are below this
abbrev pub ascii_end : ℕ
ascii_end = 128

-- tokens looked at
abbrev pub max_tokens : ℕ
max_tokens = 8192

-- constructs open at once: statements, bracketed expressions, procedures
abbrev pub max_open : ℕ
max_open = 64

-- symbol rows
abbrev pub max_rows : ℕ
max_rows = 512

-- instructions in a code list, and the code places that compile fills
abbrev pub max_code : ℕ
max_code = 4096

-- cells of the machine; also the greatest top
abbrev pub max_cells : ℕ
max_cells = 4096

-- places of the list that walk leaves the variables in
abbrev pub max_variables : ℕ
max_variables = 512

-- i64: the greatest value
abbrev pub greatest : ℕ
greatest = 9223372036854775807

-- i64: the magnitude of the least value
abbrev pub least_magnitude : ℕ
least_magnitude = 9223372036854775808

-- The working room that compile and walk ask for: three lists of places of 4 bytes, 483,712 bytes in all.

-- numbers of the tree for each token
abbrev pub tree_share : ℕ
tree_share = 12

-- the tree: 12 numbers for each of 8,192 tokens, and 96 more for what is written before its token is looked at
abbrev pub tree_places : ℕ
tree_places = 98400

-- numbers of a symbol row
abbrev pub row_share : ℕ
row_share = 12

-- the symbol rows: 12 numbers for each of 512
abbrev pub table_places : ℕ
table_places = 6144

-- numbers of an instruction while it is drafted
abbrev pub draft_share : ℕ
draft_share = 4

-- the code before it is handed out: 4 numbers for each of 4,096 instructions
abbrev pub draft_places : ℕ
draft_places = 16384
