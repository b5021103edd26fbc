-- The reader of keywords is a reader of their texts, and reads them again.
use Rattle.std.proofs.Common.{◌≡◌, ℕ, eqb, List, [], ◌∷◌, ◌++◌, length, drop, Ok, refl, sym, ap, subst, ◌∙◌, append_assoc}
use Rattle.std.specs.Prelude.{codes}
use Rattle.std.proofs.lemmas.List.{append-nil, drop_at}
use Rattle.type_desc.specs.Reader.{Reading, ◌>>=◌, either, literal_at}
use Rattle.type_desc.proofs.Readers.{IsReader, IsReader-bind, IsReader-value, IsReader-wider, IsReader-either}
use Rattle.type_desc.proofs.FieldReaders.{IsReader-literal}
use Rattle.script_text.specs.Fields.{spaced}
use Rattle.script_text.specs.Keywords.{keyword_text, ending_at, type_or_tidy_at, refactor_or_root_at, cut_or_collect_at, follow_or_forget_at, store_end_at, set_show_or_store_at, single_keyword_at, keyword_at}
use Rattle.script_text.specs.declared.keywords.Keyword.{Keyword}
use Rattle.script_text.specs.declared.keywords.Keyword.TheVariants as keys

-- what stands in a keyword behind its first n letters
abbrev tail_of : ℕ → Keyword → List ℕ
tail_of n k = drop n (keyword_text k)

-- the keyword begins with these letters
abbrev BeginsWith : List ℕ → Keyword → Type 0
BeginsWith front k = keyword_text k ≡ front ++ drop (length front) (keyword_text k)

abbrev Any : Keyword → Type 0
Any k = Unit {0}

-- a text that is a front and a rest, cut behind the front
cut : (front rest text : List ℕ) → text ≡ front ++ rest → (text ≡ front ++ drop (length front) text) × (drop (length front) text ≡ rest)
cut front rest text e =
    let back : drop (length front) text ≡ rest = ap (drop (length front)) e ∙ drop_at front rest (length front) refl in
    (e ∙ ap (λ (t : List ℕ). front ++ t) (sym back), back)

ending : (front word : List ℕ) (k : Keyword) → keyword_text k ≡ front ++ word → IsReader (tail_of (length front)) (BeginsWith front) (ending_at word k)
ending front word k is =
    let parts = cut front word (keyword_text k) is in
    IsReader-bind (λ (u : Unit {0}). word) (λ (u : Unit {0}). Unit {0}) (literal_at word) (λ u x. []) (λ u x. x ≡ k) (λ u text. Ok (k, text)) (tail_of (length front)) (BeginsWith front)
    (IsReader-literal word) (λ u fits. IsReader-value k) (λ u fits. (k, refl))
    (λ u x fits same. subst (λ (y : Keyword). BeginsWith front y × (tail_of (length front) y ≡ word ++ [])) (sym same) (parts.0, parts.1 ∙ sym (append-nil word)))

-- more letters, and then a reader of what stands behind them
branch : (front more : List ℕ) (read : List ℕ → Reading Keyword) → IsReader (tail_of (length (front ++ more))) (BeginsWith (front ++ more)) read
    → (sample : Keyword) → BeginsWith (front ++ more) sample
    → IsReader (tail_of (length front)) (BeginsWith front) (λ text. literal_at more text >>= λ rest. read rest.1)
branch front more read reader sample begins =
    IsReader-bind (λ (u : Unit {0}). more) (λ (u : Unit {0}). Unit {0}) (literal_at more) (λ u k. tail_of (length (front ++ more)) k) (λ u k. BeginsWith (front ++ more) k) (λ u text. read text)
    (tail_of (length front)) (BeginsWith front)
    (IsReader-literal more) (λ u fits. reader) (λ u fits. (sample, begins))
    (λ u k fits b. cut front (more ++ tail_of (length (front ++ more)) k) (keyword_text k) (b ∙ append_assoc front more (tail_of (length (front ++ more)) k)))

any : (read : List ℕ → Reading Keyword) → IsReader (tail_of 0) (BeginsWith []) read → IsReader keyword_text Any read
any read reader = IsReader-wider (tail_of 0) keyword_text (BeginsWith []) Any read reader (λ k b. (tt, refl))

single : (word : List ℕ) (k : Keyword) → keyword_text k ≡ word → IsReader keyword_text Any (ending_at word k)
single word k is = any (ending_at word k) (ending [] word k is)

-- a choice between two readers of what stands behind the same letters
fork : (front : List ℕ) (test : ℕ) (one two : List ℕ → Reading Keyword) → IsReader (tail_of (length front)) (BeginsWith front) one → IsReader (tail_of (length front)) (BeginsWith front) two
    → IsReader (tail_of (length front)) (BeginsWith front) (either (λ b. eqb b test) one two)
fork front test one two first second = IsReader-either (tail_of (length front)) (BeginsWith front) (λ b. eqb b test) one two first second

pair : (front : List ℕ) (test : ℕ) (one two : List ℕ) (k l : Keyword) → keyword_text k ≡ front ++ one → keyword_text l ≡ front ++ two → BeginsWith front k
    → IsReader keyword_text Any (λ text. literal_at front text >>= λ rest. either (λ b. eqb b test) (ending_at one k) (ending_at two l) rest.1)
pair front test one two k l k_is l_is begins =
    any (λ text. literal_at front text >>= λ rest. either (λ b. eqb b test) (ending_at one k) (ending_at two l) rest.1)
    (branch [] front (either (λ b. eqb b test) (ending_at one k) (ending_at two l))
    (fork front test (ending_at one k) (ending_at two l) (ending front one k k_is) (ending front two l l_is)) k begins)

IsReader-type_or_tidy : IsReader keyword_text Any type_or_tidy_at
unfolding type_or_tidy_at
IsReader-type_or_tidy = pair (codes "t") 121 (codes "ype") (codes "idy") keys.DeclareType keys.Tidy refl refl refl

IsReader-refactor_or_root : IsReader keyword_text Any refactor_or_root_at
unfolding refactor_or_root_at
IsReader-refactor_or_root = pair (codes "r") 101 (codes "efactor") (codes "oot") keys.Refactor keys.SetRoot refl refl refl

IsReader-cut_or_collect : IsReader keyword_text Any cut_or_collect_at
unfolding cut_or_collect_at
IsReader-cut_or_collect = pair (codes "c") 117 (codes "ut") (codes "ollect") keys.CutFrom keys.Collect refl refl refl

IsReader-follow_or_forget : IsReader keyword_text Any follow_or_forget_at
unfolding follow_or_forget_at
IsReader-follow_or_forget = pair (codes "fo") 108 (codes "llow") (codes "rget") keys.Follow keys.Forget refl refl refl

-- `store` itself
nothing_more : IsReader (tail_of 5) (BeginsWith (codes "store")) (λ text. Ok (keys.Store, text))
nothing_more =
    IsReader-wider (λ (k : Keyword). []) (tail_of 5) (λ k. k ≡ keys.Store) (BeginsWith (codes "store")) (λ text. Ok (keys.Store, text)) (IsReader-value keys.Store)
    (λ k is. subst (λ (x : Keyword). BeginsWith (codes "store") x × (tail_of 5 x ≡ [])) (sym is) (refl, refl))

IsReader-store_end : IsReader (tail_of 1) (BeginsWith (codes "s")) store_end_at
unfolding store_end_at
IsReader-store_end =
    branch (codes "s") (codes "tore") (either (λ b. eqb b 45) (ending_at (codes "-all") keys.StoreAll) (λ text. Ok (keys.Store, text)))
    (fork (codes "store") 45 (ending_at (codes "-all") keys.StoreAll) (λ text. Ok (keys.Store, text)) (ending (codes "store") (codes "-all") keys.StoreAll refl) nothing_more)
    keys.Store refl

IsReader-set_show_or_store : IsReader keyword_text Any set_show_or_store_at
unfolding set_show_or_store_at
IsReader-set_show_or_store =
    let show_or_store = fork (codes "s") 104 (ending_at (codes "how") keys.Show) store_end_at (ending (codes "s") (codes "how") keys.Show refl) IsReader-store_end in
    any (λ text. literal_at (codes "s") text >>= λ rest. either (λ b. eqb b 101) (ending_at (codes "et") keys.SetMember) (either (λ b. eqb b 104) (ending_at (codes "how") keys.Show) store_end_at) rest.1)
    (branch [] (codes "s") (either (λ b. eqb b 101) (ending_at (codes "et") keys.SetMember) (either (λ b. eqb b 104) (ending_at (codes "how") keys.Show) store_end_at))
    (fork (codes "s") 101 (ending_at (codes "et") keys.SetMember) _ (ending (codes "s") (codes "et") keys.SetMember refl) show_or_store) keys.Show refl)

IsReader-single_keyword : IsReader keyword_text Any single_keyword_at
unfolding single_keyword_at
IsReader-single_keyword =
    let drop_or_export = IsReader-either keyword_text Any (λ b. eqb b 100) (ending_at (codes "drop") keys.DropName) (ending_at (codes "export") keys.Export) (single (codes "drop") keys.DropName refl) (single (codes "export") keys.Export refl) in
    let from_pick = IsReader-either keyword_text Any (λ b. eqb b 112) (ending_at (codes "pick") keys.Pick) _ (single (codes "pick") keys.Pick refl) drop_or_export in
    let from_home = IsReader-either keyword_text Any (λ b. eqb b 104) (ending_at (codes "home") keys.Home) _ (single (codes "home") keys.Home refl) from_pick in
    let from_add = IsReader-either keyword_text Any (λ b. eqb b 97) (ending_at (codes "add") keys.AddTo) _ (single (codes "add") keys.AddTo refl) from_home in
    IsReader-either keyword_text Any (λ b. eqb b 110) (ending_at (codes "new") keys.New) _ (single (codes "new") keys.New refl) from_add

pub IsReader-keyword : IsReader keyword_text (λ (k : Keyword). Unit {0}) keyword_at
unfolding keyword_at
IsReader-keyword =
    let from_f = IsReader-either keyword_text Any (λ b. eqb b 102) follow_or_forget_at single_keyword_at IsReader-follow_or_forget IsReader-single_keyword in
    let from_s = IsReader-either keyword_text Any (λ b. eqb b 115) set_show_or_store_at _ IsReader-set_show_or_store from_f in
    let from_c = IsReader-either keyword_text Any (λ b. eqb b 99) cut_or_collect_at _ IsReader-cut_or_collect from_s in
    let from_r = IsReader-either keyword_text Any (λ b. eqb b 114) refactor_or_root_at _ IsReader-refactor_or_root from_c in
    IsReader-either keyword_text Any (λ b. eqb b 116) type_or_tidy_at _ IsReader-type_or_tidy from_r

store_again : (words : List (List ℕ)) → keyword_at (codes "store" ++ spaced words) ≡ Ok (keys.Store, spaced words)
unfolding keyword_at set_show_or_store_at store_end_at
store_again [] = refl
store_again (word ∷ words) = refl

pub keyword_again : (k : Keyword) (words : List (List ℕ)) → keyword_at (keyword_text k ++ spaced words) ≡ Ok (k, spaced words)
unfolding keyword_at type_or_tidy_at refactor_or_root_at cut_or_collect_at follow_or_forget_at set_show_or_store_at store_end_at single_keyword_at
keyword_again keys.DeclareType words = refl
keyword_again keys.Refactor words = refl
keyword_again keys.New words = refl
keyword_again keys.SetMember words = refl
keyword_again keys.AddTo words = refl
keyword_again keys.CutFrom words = refl
keyword_again keys.SetRoot words = refl
keyword_again keys.Store words = store_again words
keyword_again keys.StoreAll words = refl
keyword_again keys.Show words = refl
keyword_again keys.Home words = refl
keyword_again keys.Follow words = refl
keyword_again keys.Pick words = refl
keyword_again keys.DropName words = refl
keyword_again keys.Forget words = refl
keyword_again keys.Collect words = refl
keyword_again keys.Tidy words = refl
keyword_again keys.Export words = refl
