-- What the model's table of lines makes of the words behind a keyword, beside what the readers take.
use Rattle.std.proofs.Common.{◌≡◌, ℕ, cond, leb, List, [], ◌∷◌, length, Option, Some, None, refl, sym, ap, ◌∙◌, inl, inr}
use Rattle.std.proofs.lemmas.Bool.{leb-true, le-leb}
use Rattle.type_desc.specs.declared.desc.Member.{Member}
use Rattle.type_desc.specs.declared.desc.NameKind.TheVariants as names
use Rattle.type_desc.proofs.Readers.{chosen}
use Rattle.refactor_table.specs.Names.{name_text}
use Rattle.refactor_table.specs.Reading.{ref_name_at}
use Rattle.session_model.specs.Commands.{◌>>=◌, whole, type_name_of, member_name_of, name_of, target_of, number_of, digits_value, members_of, refactor_of, Command, DeclareType, New, AddTo, CutFrom, SetRoot, Store, StoreAll, Show, Home, Follow, Pick, DropName, Forget, Collect, Tidy, Export, type_line, refactor_line, new_line, add_line, cut_line, follow_line, pick_line, name_line, bare_line}
use Rattle.script_text.specs.Arguments.{OfWords, OfDescription, OfPair, Arguments, Words, Description, Pair, Value, IsArguments, words_in, shape_of}
use Rattle.script_text.specs.Fields.{IsField, AreFields}
use Rattle.script_text.specs.Lines.{command_made, target_named}
use Rattle.script_text.specs.declared.fields.Field.{Field}
use Rattle.script_text.specs.declared.fields.Field.TheVariants as fields
use Rattle.script_text.specs.declared.keywords.Keyword.{Keyword}
use Rattle.script_text.specs.declared.keywords.Keyword.TheVariants as keys
use Rattle.script_text.proofs.WordValues.{some, some_is, some_bind, some_map, named_is, named_from, name_is, name_from, target_is, target_from, number_is, number_from, members_are, members_from, ref_name_is, ref_name_from, pair_is, pair_from}

-- the row of a keyword; `set` has none
abbrev pub row_read : Keyword → List (List ℕ) → Option Command
row_read keys.DeclareType words = type_line words
row_read keys.Refactor words = refactor_line words
row_read keys.New words = new_line words
row_read keys.SetMember words = None
row_read keys.AddTo words = add_line words
row_read keys.CutFrom words = cut_line words
row_read keys.SetRoot words = name_line SetRoot words
row_read keys.Store words = name_line Store words
row_read keys.StoreAll words = name_line StoreAll words
row_read keys.Show words = name_line Show words
row_read keys.Home words = name_line Home words
row_read keys.Follow words = follow_line words
row_read keys.Pick words = pick_line words
row_read keys.DropName words = name_line DropName words
row_read keys.Forget words = bare_line Forget words
row_read keys.Collect words = bare_line Collect words
row_read keys.Tidy words = bare_line Tidy words
row_read keys.Export words = bare_line Export words

-- the words are arguments of the keyword that make this command
abbrev pub Spelled : Keyword → List (List ℕ) → Command → Type 0
Spelled k words c = (a : Arguments) × IsArguments (shape_of k) a × (words_in a ≡ words) × (command_made k a ≡ c)

-- ---- a row that makes a command

name_spelled : (make : List ℕ → Command) (words : List (List ℕ)) (c : Command) → name_line make words ≡ Some c → (name : List ℕ) × IsField fields.Name name × (words ≡ name ∷ []) × (make name ≡ c)
name_spelled make [] c e = absurd cc
name_spelled make (name ∷ []) c e =
    let v = some_map (name_of name) make c e in
    let p = name_is name v.0 v.1 in
    (name, p.0, refl, ap make p.1 ∙ v.2)
name_spelled make (name ∷ (w ∷ ws)) c e = absurd cc

bare_spelled : (command : Command) (words : List (List ℕ)) (c : Command) → bare_line command words ≡ Some c → (words ≡ []) × (command ≡ c)
bare_spelled command [] c e = (refl, some_is command c e)
bare_spelled command (w ∷ ws) c e = absurd cc

type_spelled : (words : List (List ℕ)) (c : Command) → type_line words ≡ Some c → Spelled keys.DeclareType words c
type_spelled [] c e = absurd cc
type_spelled (word ∷ words) c e =
    let made : List ℕ → List Member → Command = λ name members. DeclareType (record { name = name; members = members }) in
    let name = some_bind (type_name_of word) (λ name. members_of words >>= λ members. cond (leb (length members) 1024) (Some (made name members)) None) c e in
    let members = some_bind (members_of words) (λ members. cond (leb (length members) 1024) (Some (made name.0 members)) None) c name.2 in
    let n = named_is names.OfType word name.0 name.1 in
    let ms = members_are words members.0 members.1 in
    elim (chosen (leb (length members.0) 1024) (Some (made name.0 members.0)) None (Some c) members.2) [
      | inl few ↦ (
        Description word members.0,
        (n.0, (ms.0, leb-true (length members.0) 1024 few.0)),
        ap (λ (ws : List (List ℕ)). word ∷ ws) (sym ms.1),
        ap (λ (w : List ℕ). made w members.0) n.1 ∙ some_is (made name.0 members.0) c few.1,
      )
      | inr many ↦ absurd (let never = many.1 in cc)
    ]

refactor_spelled : (words : List (List ℕ)) (c : Command) → refactor_line words ≡ Some c → Spelled keys.Refactor words c
refactor_spelled [] c e = absurd cc
refactor_spelled (old ∷ []) c e = absurd cc
refactor_spelled (old ∷ (new ∷ (w ∷ ws))) c e = absurd cc
refactor_spelled (old ∷ (new ∷ [])) c e =
    let from = some_bind (whole (ref_name_at old)) (λ from. whole (ref_name_at new) >>= λ to. refactor_of from to) c e in
    let to = some_bind (whole (ref_name_at new)) (λ to. refactor_of from.0 to) c from.2 in
    let o = ref_name_is old from.0 from.1 in
    let n = ref_name_is new to.0 to.1 in
    let p = pair_is from.0 to.0 c to.2 in
    (Pair from.0 to.0, (o.0, n.0, p.0), ap (λ (w : List ℕ). w ∷ (name_text to.0 ∷ [])) (sym o.1) ∙ ap (λ (w : List ℕ). old ∷ (w ∷ [])) (sym n.1), p.1)

new_spelled : (words : List (List ℕ)) (c : Command) → new_line words ≡ Some c → Spelled keys.New words c
new_spelled [] c e = absurd cc
new_spelled (name ∷ []) c e = absurd cc
new_spelled (name ∷ (type_name ∷ (w ∷ ws))) c e = absurd cc
new_spelled (name ∷ (type_name ∷ [])) c e =
    let bound = some_bind (name_of name) (λ bound. type_name_of type_name >>= λ of_type. Some (New bound of_type)) c e in
    let of_type = some_bind (type_name_of type_name) (λ of_type. Some (New bound.0 of_type)) c bound.2 in
    let n = name_is name bound.0 bound.1 in
    let t = named_is names.OfType type_name of_type.0 of_type.1 in
    (Words (name ∷ (type_name ∷ [])), (n.0, (t.0, tt)), refl, ap (λ (w : List ℕ). New w type_name) n.1 ∙ ap (λ (w : List ℕ). New bound.0 w) t.1 ∙ some_is (New bound.0 of_type.0) c of_type.2)

add_spelled : (words : List (List ℕ)) (c : Command) → add_line words ≡ Some c → Spelled keys.AddTo words c
add_spelled [] c e = absurd cc
add_spelled (name ∷ []) c e = absurd cc
add_spelled (name ∷ (member ∷ [])) c e = absurd cc
add_spelled (name ∷ (member ∷ (target ∷ (w ∷ ws)))) c e = absurd cc
add_spelled (name ∷ (member ∷ (target ∷ []))) c e =
    let bound = some_bind (name_of name) (λ bound. member_name_of member >>= λ of_member. target_of target >>= λ to. Some (AddTo bound of_member to)) c e in
    let of_member = some_bind (member_name_of member) (λ of_member. target_of target >>= λ to. Some (AddTo bound.0 of_member to)) c bound.2 in
    let to = some_bind (target_of target) (λ to. Some (AddTo bound.0 of_member.0 to)) c of_member.2 in
    let n = name_is name bound.0 bound.1 in
    let m = named_is names.OfMember member of_member.0 of_member.1 in
    let t = target_is target to.0 to.1 in (
      Words (name ∷ (member ∷ (target ∷ []))),
      (n.0, (m.0, (t.0, tt))),
      refl,
      ap (λ (w : List ℕ). AddTo w member (target_named target)) n.1 ∙ ap (λ (w : List ℕ). AddTo bound.0 w (target_named target)) m.1 ∙ ap (AddTo bound.0 of_member.0) t.1 ∙ some_is (AddTo bound.0 of_member.0 to.0) c to.2,
    )

cut_spelled : (words : List (List ℕ)) (c : Command) → cut_line words ≡ Some c → Spelled keys.CutFrom words c
cut_spelled [] c e = absurd cc
cut_spelled (name ∷ []) c e = absurd cc
cut_spelled (name ∷ (member ∷ [])) c e = absurd cc
cut_spelled (name ∷ (member ∷ (index ∷ (w ∷ ws)))) c e = absurd cc
cut_spelled (name ∷ (member ∷ (index ∷ []))) c e =
    let bound = some_bind (name_of name) (λ bound. member_name_of member >>= λ of_member. number_of index >>= λ at. Some (CutFrom bound of_member at)) c e in
    let of_member = some_bind (member_name_of member) (λ of_member. number_of index >>= λ at. Some (CutFrom bound.0 of_member at)) c bound.2 in
    let at = some_bind (number_of index) (λ at. Some (CutFrom bound.0 of_member.0 at)) c of_member.2 in
    let n = name_is name bound.0 bound.1 in
    let m = named_is names.OfMember member of_member.0 of_member.1 in
    let i = number_is index at.0 at.1 in (
      Words (name ∷ (member ∷ (index ∷ []))),
      (n.0, (m.0, (i.0, tt))),
      refl,
      ap (λ (w : List ℕ). CutFrom w member (digits_value index)) n.1 ∙ ap (λ (w : List ℕ). CutFrom bound.0 w (digits_value index)) m.1 ∙ ap (CutFrom bound.0 of_member.0) i.1 ∙ some_is (CutFrom bound.0 of_member.0 at.0) c at.2,
    )

follow_spelled : (words : List (List ℕ)) (c : Command) → follow_line words ≡ Some c → Spelled keys.Follow words c
follow_spelled [] c e = absurd cc
follow_spelled (name ∷ []) c e = absurd cc
follow_spelled (name ∷ (member ∷ [])) c e = absurd cc
follow_spelled (name ∷ (member ∷ (new ∷ (w ∷ ws)))) c e = absurd cc
follow_spelled (name ∷ (member ∷ (new ∷ []))) c e =
    let bound = some_bind (name_of name) (λ bound. member_name_of member >>= λ of_member. name_of new >>= λ fresh. Some (Follow bound of_member fresh)) c e in
    let of_member = some_bind (member_name_of member) (λ of_member. name_of new >>= λ fresh. Some (Follow bound.0 of_member fresh)) c bound.2 in
    let fresh = some_bind (name_of new) (λ fresh. Some (Follow bound.0 of_member.0 fresh)) c of_member.2 in
    let n = name_is name bound.0 bound.1 in
    let m = named_is names.OfMember member of_member.0 of_member.1 in
    let f = name_is new fresh.0 fresh.1 in (
      Words (name ∷ (member ∷ (new ∷ []))),
      (n.0, (m.0, (f.0, tt))),
      refl,
      ap (λ (w : List ℕ). Follow w member new) n.1 ∙ ap (λ (w : List ℕ). Follow bound.0 w new) m.1 ∙ ap (Follow bound.0 of_member.0) f.1 ∙ some_is (Follow bound.0 of_member.0 fresh.0) c fresh.2,
    )

pick_spelled : (words : List (List ℕ)) (c : Command) → pick_line words ≡ Some c → Spelled keys.Pick words c
pick_spelled [] c e = absurd cc
pick_spelled (name ∷ []) c e = absurd cc
pick_spelled (name ∷ (member ∷ [])) c e = absurd cc
pick_spelled (name ∷ (member ∷ (index ∷ []))) c e = absurd cc
pick_spelled (name ∷ (member ∷ (index ∷ (new ∷ (w ∷ ws))))) c e = absurd cc
pick_spelled (name ∷ (member ∷ (index ∷ (new ∷ [])))) c e =
    let bound = some_bind (name_of name) (λ bound. member_name_of member >>= λ of_member. number_of index >>= λ at. name_of new >>= λ fresh. Some (Pick bound of_member at fresh)) c e in
    let of_member = some_bind (member_name_of member) (λ of_member. number_of index >>= λ at. name_of new >>= λ fresh. Some (Pick bound.0 of_member at fresh)) c bound.2 in
    let at = some_bind (number_of index) (λ at. name_of new >>= λ fresh. Some (Pick bound.0 of_member.0 at fresh)) c of_member.2 in
    let fresh = some_bind (name_of new) (λ fresh. Some (Pick bound.0 of_member.0 at.0 fresh)) c at.2 in
    let n = name_is name bound.0 bound.1 in
    let m = named_is names.OfMember member of_member.0 of_member.1 in
    let i = number_is index at.0 at.1 in
    let f = name_is new fresh.0 fresh.1 in (
      Words (name ∷ (member ∷ (index ∷ (new ∷ [])))),
      (n.0, (m.0, (i.0, (f.0, tt)))),
      refl,
      ap (λ (w : List ℕ). Pick w member (digits_value index) new) n.1 ∙ ap (λ (w : List ℕ). Pick bound.0 w (digits_value index) new) m.1 ∙ ap (λ (k : ℕ). Pick bound.0 of_member.0 k new) i.1
          ∙ ap (Pick bound.0 of_member.0 at.0) f.1 ∙ some_is (Pick bound.0 of_member.0 at.0 fresh.0) c fresh.2,
    )

pub row_spelled : (k : Keyword) (words : List (List ℕ)) (c : Command) → row_read k words ≡ Some c → Spelled k words c
row_spelled keys.DeclareType words c e = type_spelled words c e
row_spelled keys.Refactor words c e = refactor_spelled words c e
row_spelled keys.New words c e = new_spelled words c e
row_spelled keys.SetMember words c e = absurd cc
row_spelled keys.AddTo words c e = add_spelled words c e
row_spelled keys.CutFrom words c e = cut_spelled words c e
row_spelled keys.SetRoot words c e = let s = name_spelled SetRoot words c e in (Words (s.0 ∷ []), (s.1, tt), sym s.2, s.3)
row_spelled keys.Store words c e = let s = name_spelled Store words c e in (Words (s.0 ∷ []), (s.1, tt), sym s.2, s.3)
row_spelled keys.StoreAll words c e = let s = name_spelled StoreAll words c e in (Words (s.0 ∷ []), (s.1, tt), sym s.2, s.3)
row_spelled keys.Show words c e = let s = name_spelled Show words c e in (Words (s.0 ∷ []), (s.1, tt), sym s.2, s.3)
row_spelled keys.Home words c e = let s = name_spelled Home words c e in (Words (s.0 ∷ []), (s.1, tt), sym s.2, s.3)
row_spelled keys.Follow words c e = follow_spelled words c e
row_spelled keys.Pick words c e = pick_spelled words c e
row_spelled keys.DropName words c e = let s = name_spelled DropName words c e in (Words (s.0 ∷ []), (s.1, tt), sym s.2, s.3)
row_spelled keys.Forget words c e = let s = bare_spelled Forget words c e in (Words [], tt, sym s.0, s.1)
row_spelled keys.Collect words c e = let s = bare_spelled Collect words c e in (Words [], tt, sym s.0, s.1)
row_spelled keys.Tidy words c e = let s = bare_spelled Tidy words c e in (Words [], tt, sym s.0, s.1)
row_spelled keys.Export words c e = let s = bare_spelled Export words c e in (Words [], tt, sym s.0, s.1)

-- ---- arguments whose row makes their command

abbrev Makes : Keyword → Arguments → Type 0
Makes k a = row_read k (words_in a) ≡ Some (command_made k a)

-- arguments that are words
of_words : (kinds : List Field) (P : Arguments → Type 0) → ((words : List (List ℕ)) → AreFields kinds words → P (Words words)) → (a : Arguments) → IsArguments (OfWords kinds) a → P a
of_words kinds P holds (Words words) is = holds words is
of_words kinds P holds (Description name members) is = absurd is
of_words kinds P holds (Pair old new) is = absurd is
of_words kinds P holds (Value name member rest) is = absurd is

one_makes : (k : Keyword) (make : List ℕ → Command) → ((name : List ℕ) → command_made k (Words (name ∷ [])) ≡ make name) → (words : List (List ℕ)) → AreFields (fields.Name ∷ []) words
    → name_line make words ≡ Some (command_made k (Words words))
one_makes k make same [] are = absurd are
one_makes k make same (name ∷ []) are = rw (name_from name are.0, same name) refl
one_makes k make same (name ∷ (w ∷ ws)) are = absurd are.1

bare_makes : (k : Keyword) (command : Command) → command_made k (Words []) ≡ command → (words : List (List ℕ)) → AreFields [] words → bare_line command words ≡ Some (command_made k (Words words))
bare_makes k command same [] are = ap some (sym same)
bare_makes k command same (w ∷ ws) are = absurd are

new_makes : (words : List (List ℕ)) → AreFields (fields.Name ∷ (fields.TypeName ∷ [])) words → Makes keys.New (Words words)
new_makes [] are = absurd are
new_makes (name ∷ []) are = absurd are.1
new_makes (name ∷ (type_name ∷ [])) are = rw (name_from name are.0, named_from names.OfType type_name are.1.0) refl
new_makes (name ∷ (type_name ∷ (w ∷ ws))) are = absurd are.1.1

add_makes : (words : List (List ℕ)) → AreFields (fields.Name ∷ (fields.Member ∷ (fields.Target ∷ []))) words → Makes keys.AddTo (Words words)
add_makes [] are = absurd are
add_makes (name ∷ []) are = absurd are.1
add_makes (name ∷ (member ∷ [])) are = absurd are.1.1
add_makes (name ∷ (member ∷ (target ∷ []))) are = rw (name_from name are.0, named_from names.OfMember member are.1.0, target_from target are.1.1.0) refl
add_makes (name ∷ (member ∷ (target ∷ (w ∷ ws)))) are = absurd are.1.1.1

cut_makes : (words : List (List ℕ)) → AreFields (fields.Name ∷ (fields.Member ∷ (fields.Index ∷ []))) words → Makes keys.CutFrom (Words words)
cut_makes [] are = absurd are
cut_makes (name ∷ []) are = absurd are.1
cut_makes (name ∷ (member ∷ [])) are = absurd are.1.1
cut_makes (name ∷ (member ∷ (index ∷ []))) are = rw (name_from name are.0, named_from names.OfMember member are.1.0, number_from index are.1.1.0) refl
cut_makes (name ∷ (member ∷ (index ∷ (w ∷ ws)))) are = absurd are.1.1.1

follow_makes : (words : List (List ℕ)) → AreFields (fields.Name ∷ (fields.Member ∷ (fields.Name ∷ []))) words → Makes keys.Follow (Words words)
follow_makes [] are = absurd are
follow_makes (name ∷ []) are = absurd are.1
follow_makes (name ∷ (member ∷ [])) are = absurd are.1.1
follow_makes (name ∷ (member ∷ (new ∷ []))) are = rw (name_from name are.0, named_from names.OfMember member are.1.0, name_from new are.1.1.0) refl
follow_makes (name ∷ (member ∷ (new ∷ (w ∷ ws)))) are = absurd are.1.1.1

pick_makes : (words : List (List ℕ)) → AreFields (fields.Name ∷ (fields.Member ∷ (fields.Index ∷ (fields.Name ∷ [])))) words → Makes keys.Pick (Words words)
pick_makes [] are = absurd are
pick_makes (name ∷ []) are = absurd are.1
pick_makes (name ∷ (member ∷ [])) are = absurd are.1.1
pick_makes (name ∷ (member ∷ (index ∷ []))) are = absurd are.1.1.1
pick_makes (name ∷ (member ∷ (index ∷ (new ∷ [])))) are = rw (name_from name are.0, named_from names.OfMember member are.1.0, number_from index are.1.1.0, name_from new are.1.1.1.0) refl
pick_makes (name ∷ (member ∷ (index ∷ (new ∷ (w ∷ ws))))) are = absurd are.1.1.1.1

type_makes : (a : Arguments) → IsArguments OfDescription a → Makes keys.DeclareType a
type_makes (Words words) is = absurd is
type_makes (Description name members) is = rw (named_from names.OfType name is.0, members_from members is.1.0, le-leb (length members) 1024 is.1.1) refl
type_makes (Pair old new) is = absurd is
type_makes (Value name member rest) is = absurd is

refactor_makes : (a : Arguments) → IsArguments OfPair a → Makes keys.Refactor a
refactor_makes (Words words) is = absurd is
refactor_makes (Description name members) is = absurd is
refactor_makes (Pair old new) is = rw (ref_name_from old is.0, ref_name_from new is.1) (pair_from old new is.2)
refactor_makes (Value name member rest) is = absurd is

one : (k : Keyword) (make : List ℕ → Command) → ((name : List ℕ) → command_made k (Words (name ∷ [])) ≡ make name) → (a : Arguments) → IsArguments (OfWords (fields.Name ∷ [])) a
    → name_line make (words_in a) ≡ Some (command_made k a)
one k make same a is = of_words (fields.Name ∷ []) (λ x. name_line make (words_in x) ≡ Some (command_made k x)) (one_makes k make same) a is

bare : (k : Keyword) (command : Command) → command_made k (Words []) ≡ command → (a : Arguments) → IsArguments (OfWords []) a → bare_line command (words_in a) ≡ Some (command_made k a)
bare k command same a is = of_words [] (λ x. bare_line command (words_in x) ≡ Some (command_made k x)) (bare_makes k command same) a is

-- `set` aside, a keyword's row makes the command of its arguments
pub row_makes : (k : Keyword) (a : Arguments) → ¬ (k ≡ keys.SetMember) → IsArguments (shape_of k) a → row_read k (words_in a) ≡ Some (command_made k a)
row_makes keys.DeclareType a other is = type_makes a is
row_makes keys.Refactor a other is = refactor_makes a is
row_makes keys.New a other is = of_words (fields.Name ∷ (fields.TypeName ∷ [])) (λ x. Makes keys.New x) new_makes a is
row_makes keys.SetMember a other is = absurd (other refl)
row_makes keys.AddTo a other is = of_words (fields.Name ∷ (fields.Member ∷ (fields.Target ∷ []))) (λ x. Makes keys.AddTo x) add_makes a is
row_makes keys.CutFrom a other is = of_words (fields.Name ∷ (fields.Member ∷ (fields.Index ∷ []))) (λ x. Makes keys.CutFrom x) cut_makes a is
row_makes keys.SetRoot a other is = one keys.SetRoot SetRoot (λ name. refl) a is
row_makes keys.Store a other is = one keys.Store Store (λ name. refl) a is
row_makes keys.StoreAll a other is = one keys.StoreAll StoreAll (λ name. refl) a is
row_makes keys.Show a other is = one keys.Show Show (λ name. refl) a is
row_makes keys.Home a other is = one keys.Home Home (λ name. refl) a is
row_makes keys.Follow a other is = of_words (fields.Name ∷ (fields.Member ∷ (fields.Name ∷ []))) (λ x. Makes keys.Follow x) follow_makes a is
row_makes keys.Pick a other is = of_words (fields.Name ∷ (fields.Member ∷ (fields.Index ∷ (fields.Name ∷ [])))) (λ x. Makes keys.Pick x) pick_makes a is
row_makes keys.DropName a other is = one keys.DropName DropName (λ name. refl) a is
row_makes keys.Forget a other is = bare keys.Forget Forget refl a is
row_makes keys.Collect a other is = bare keys.Collect Collect refl a is
row_makes keys.Tidy a other is = bare keys.Tidy Tidy refl a is
row_makes keys.Export a other is = bare keys.Export Export refl a is
