-- The first word of a line: its text, and how it is read from left to right.
use Rattle.std.specs.Prelude.{ℕ, List, Ok, codes, ◌==◌}
use Rattle.type_desc.specs.Reader.{Reading, ◌>>=◌, either, literal_at}
use Rattle.script_text.specs.declared.keywords.Keyword.{Keyword}
use Rattle.script_text.specs.declared.keywords.Keyword.TheVariants as keys

abbrev pub keyword_text : Keyword → List ℕ
keyword_text keys.DeclareType = codes "type"
keyword_text keys.Refactor = codes "refactor"
keyword_text keys.New = codes "new"
keyword_text keys.SetMember = codes "set"
keyword_text keys.AddTo = codes "add"
keyword_text keys.CutFrom = codes "cut"
keyword_text keys.SetRoot = codes "root"
keyword_text keys.Store = codes "store"
keyword_text keys.StoreAll = codes "store-all"
keyword_text keys.Show = codes "show"
keyword_text keys.Home = codes "home"
keyword_text keys.Follow = codes "follow"
keyword_text keys.Pick = codes "pick"
keyword_text keys.DropName = codes "drop"
keyword_text keys.Forget = codes "forget"
keyword_text keys.Collect = codes "collect"
keyword_text keys.Tidy = codes "tidy"
keyword_text keys.Export = codes "export"

-- the last letters of a keyword
abbrev pub ending_at : List ℕ → Keyword → List ℕ → Reading Keyword
ending_at ending keyword text = do
  rest ← literal_at ending text
  Ok (keyword, rest.1)

-- `type` where a `y` follows the first letter, else `tidy`
unfoldable pub type_or_tidy_at : List ℕ → Reading Keyword
type_or_tidy_at text = do
  rest ← literal_at (codes "t") text
  either (λ b. b == 121) (ending_at (codes "ype") keys.DeclareType) (ending_at (codes "idy") keys.Tidy) rest.1

-- `refactor` where an `e` follows, else `root`
unfoldable pub refactor_or_root_at : List ℕ → Reading Keyword
refactor_or_root_at text = do
  rest ← literal_at (codes "r") text
  either (λ b. b == 101) (ending_at (codes "efactor") keys.Refactor) (ending_at (codes "oot") keys.SetRoot) rest.1

-- `cut` where a `u` follows, else `collect`
unfoldable pub cut_or_collect_at : List ℕ → Reading Keyword
cut_or_collect_at text = do
  rest ← literal_at (codes "c") text
  either (λ b. b == 117) (ending_at (codes "ut") keys.CutFrom) (ending_at (codes "ollect") keys.Collect) rest.1

-- `follow` where an `l` follows the first two letters, else `forget`
unfoldable pub follow_or_forget_at : List ℕ → Reading Keyword
follow_or_forget_at text = do
  rest ← literal_at (codes "fo") text
  either (λ b. b == 108) (ending_at (codes "llow") keys.Follow) (ending_at (codes "rget") keys.Forget) rest.1

-- behind an `s`, `tore-all` where a dash follows `tore`
unfoldable pub store_end_at : List ℕ → Reading Keyword
store_end_at text = do
  rest ← literal_at (codes "tore") text
  either (λ b. b == 45) (ending_at (codes "-all") keys.StoreAll) (λ t. Ok (keys.Store, t)) rest.1

-- `set` where an `e` follows, `show` where an `h` follows, else `store` or `store-all`
unfoldable pub set_show_or_store_at : List ℕ → Reading Keyword
set_show_or_store_at text = do
  rest ← literal_at (codes "s") text
  either (λ b. b == 101) (ending_at (codes "et") keys.SetMember) (either (λ b. b == 104) (ending_at (codes "how") keys.Show) store_end_at) rest.1

-- the keywords that share no beginning
unfoldable pub single_keyword_at : List ℕ → Reading Keyword
single_keyword_at text =
    either (λ b. b == 110) (ending_at (codes "new") keys.New)
    (either (λ b. b == 97) (ending_at (codes "add") keys.AddTo)
    (either (λ b. b == 104) (ending_at (codes "home") keys.Home)
    (either (λ b. b == 112) (ending_at (codes "pick") keys.Pick)
    (either (λ b. b == 100) (ending_at (codes "drop") keys.DropName) (ending_at (codes "export") keys.Export))))) text

unfoldable pub keyword_at : List ℕ → Reading Keyword
keyword_at text =
    either (λ b. b == 116) type_or_tidy_at
    (either (λ b. b == 114) refactor_or_root_at
    (either (λ b. b == 99) cut_or_collect_at
    (either (λ b. b == 115) set_show_or_store_at
    (either (λ b. b == 102) follow_or_forget_at single_keyword_at)))) text
