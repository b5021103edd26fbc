-- A whole line, read from left to right.
use Rattle.std.specs.Prelude.{ℕ, if◌then◌else◌, List, [], ◌∷◌, Ok, codes}
use Rattle.std.specs.Str.{bytes_eq}
use Rattle.type_desc.specs.Reader.{Reading, ◌>>=◌}
use Rattle.session_model.specs.Commands.{Command, Target, Null, Named, DeclareType, Refactor, New, SetMember, AddTo, CutFrom, SetRoot, Store, StoreAll, Show, Home, Follow, Pick, DropName, Forget, Collect, Tidy, Export, digits_value}
use Rattle.script_text.specs.Arguments.{Arguments, Words, Description, Pair, Value, shape_of, arguments_at}
use Rattle.script_text.specs.Keywords.{keyword_at}
use Rattle.script_text.specs.declared.keywords.Keyword.{Keyword}
use Rattle.script_text.specs.declared.keywords.Keyword.TheVariants as keys

-- what a word names as a target
abbrev pub target_named : List ℕ → Target
target_named word = if bytes_eq word (codes "null") then Null else Named word

-- the command of a keyword and what follows it; any command where they do not fit
abbrev pub command_made : Keyword → Arguments → Command
command_made keys.DeclareType (Description name members) = DeclareType (record { name = name; members = members })
command_made keys.Refactor (Pair old new) = Refactor old new
command_made keys.New (Words (name ∷ (type_name ∷ []))) = New name type_name
command_made keys.SetMember (Value name member rest) = SetMember name member rest
command_made keys.AddTo (Words (name ∷ (member ∷ (target ∷ [])))) = AddTo name member (target_named target)
command_made keys.CutFrom (Words (name ∷ (member ∷ (index ∷ [])))) = CutFrom name member (digits_value index)
command_made keys.SetRoot (Words (name ∷ [])) = SetRoot name
command_made keys.Store (Words (name ∷ [])) = Store name
command_made keys.StoreAll (Words (name ∷ [])) = StoreAll name
command_made keys.Show (Words (name ∷ [])) = Show name
command_made keys.Home (Words (name ∷ [])) = Home name
command_made keys.Follow (Words (name ∷ (member ∷ (new ∷ [])))) = Follow name member new
command_made keys.Pick (Words (name ∷ (member ∷ (index ∷ (new ∷ []))))) = Pick name member (digits_value index) new
command_made keys.DropName (Words (name ∷ [])) = DropName name
command_made keys.Forget (Words []) = Forget
command_made keys.Collect (Words []) = Collect
command_made keys.Tidy (Words []) = Tidy
command_made keys.Export (Words []) = Export
command_made _ _ = Tidy

-- the command of what was read behind a keyword
abbrev pub made_of : Keyword → Reading Arguments → Reading Command
made_of keyword reading = do
  arguments ← reading
  Ok (command_made keyword arguments.0, arguments.1)

-- behind a keyword
unfoldable pub command_at : Keyword → List ℕ → Reading Command
command_at keyword text = made_of keyword (arguments_at (shape_of keyword) text)

unfoldable pub line_at : List ℕ → Reading Command
line_at text = do
  keyword ← keyword_at text
  command_at keyword.0 keyword.1
