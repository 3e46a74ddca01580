-- The items of a list, sorted.
use Rattle.std.proofs.Common.{◌≡◌, List, [], ◌∷◌, ◌++◌, Option, Some, None, map, refl, sym, ap, subst, ◌∙◌, append_assoc}
use Rattle.std.proofs.lemmas.Grind.{flat_map-append}
use Rattle.std.proofs.lemmas.List.{append-nil, map-append}
use Rattle.std.specs.List.{flat_map}
use Rattle.sheet_model.specs.declared.instr.Instr.{Instr}
use Rattle.sheet_model.specs.declared.instr.Instr.TheVariants as instr
use Rattle.sheet_loader.specs.Contents.{Holds}
use Rattle.sheet_loader.specs.Making as making
use Rattle.sheet_loader.specs.Meant.{item_of}
use Rattle.sheet_loader.specs.Reading.{Item, Instruction, An_if, An_else, A_local, A_branch, An_otherwise, A_param, A_value, Text, A_part}
use Rattle.sheet_loader.specs.Sorting.{Sorts, closed, open_item, taken, with_else}
use Rattle.sheet_loader.specs.declared.content.Content.{Content}
use Rattle.sheet_loader.specs.declared.content.OpenIf.{OpenIf}
use Rattle.sheet_loader.specs.declared.content.Sorter.{Sorter}
use Rattle.sheet_loader.specs.declared.item.Item as program

-- one item more
more : {A B : Type 0} (f : A → List B) (before : List B) (xs : List A) (x : A) → before ≡ flat_map f xs → before ++ f x ≡ flat_map f (xs ++ x ∷ [])
more f before xs x e = ap (λ l. l ++ f x) e ∙ ap (λ l. flat_map f xs ++ l) (sym (append-nil (f x))) ∙ sym (flat_map-append f xs (x ∷ []))

-- an item that brings nothing to a list
none : {A B : Type 0} (f : A → List B) (before : List B) (xs : List A) (x : A) → f x ≡ [] → before ≡ flat_map f xs → before ≡ flat_map f (xs ++ x ∷ [])
none f before xs x n e = sym (append-nil before) ∙ ap (λ l. before ++ l) (sym n) ∙ more f before xs x e

-- the body, as it goes on behind some items
abbrev Goes : List Item → Option OpenIf → List Instr → Type 0
Goes items o done = (rest : List Item) → making.body (items ++ rest) ≡ done ++ making.body (open_item o ++ rest)

-- the same behind one item more
along : (items : List Item) (item : Item) (o : Option OpenIf) (done : List Instr) (p : Option OpenIf) (next : List Instr) → Goes items o done
    → ((rest : List Item) → done ++ making.body (open_item o ++ item ∷ rest) ≡ next ++ making.body (open_item p ++ rest)) → Goes (items ++ item ∷ []) p next
along items item o done p next g h rest = ap making.body (append_assoc items (item ∷ []) rest) ∙ g (item ∷ rest) ∙ h rest

-- an else closes the if before it
with-else : (o : Option OpenIf) (done other : List Instr) (rest : List Item)
    → done ++ making.body (open_item o ++ An_else other ∷ rest) ≡ (done ++ with_else o other) ++ making.body rest
with-else None done other rest = ap (λ l. l ++ making.body rest) (sym (append-nil done))
with-else (Some i) done other rest = sym (append_assoc done (with_else (Some i) other) (making.body rest))

-- an item that is no else: the if before it has none
without-else : (o : Option OpenIf) (done : List Instr) (item : Item) (rest : List Item)
    → ((i : OpenIf) → making.body (An_if i.test i.body i.at ∷ item ∷ rest) ≡ instr.If i.test i.body [] i.at ∷ making.body (item ∷ rest))
    → done ++ making.body (open_item o ++ item ∷ rest) ≡ (done ++ with_else o []) ++ making.body (item ∷ rest)
without-else None done item rest h = ap (λ l. l ++ making.body (item ∷ rest)) (sym (append-nil done))
without-else (Some i) done item rest h = ap (λ l. done ++ l) (h i) ∙ sym (append_assoc done (with_else (Some i) []) (making.body (item ∷ rest)))

-- an instruction goes behind the others
one-more : (done : List Instr) (i : Instr) (rest : List Instr) → done ++ i ∷ rest ≡ (done ++ i ∷ []) ++ rest
one-more done i rest = sym (append_assoc done (i ∷ []) rest)

module _ (items : List Item) (s : Sorter) (h : Sorts items s) where
  pub sorts_more : (item : Item) → Sorts (items ++ item ∷ []) (taken item s)
  sorts_more (Instruction i) = record {
    params = none making.params_of_item s.content.params items (Instruction i) refl h.params;
    body = along items (Instruction i) s.open_if s.content.body None ((s.content.body ++ with_else s.open_if []) ++ i ∷ []) h.body (λ rest.
        without-else s.open_if s.content.body (Instruction i) rest (λ o. refl) ∙ one-more (s.content.body ++ with_else s.open_if []) i (making.body rest));
    branches = none making.branch_of_item s.content.branches items (Instruction i) refl h.branches;
    otherwise = none making.otherwise_of_item s.content.otherwise items (Instruction i) refl h.otherwise;
    values = none making.values_of_item s.content.values items (Instruction i) refl h.values;
    text = none making.text_of_item s.content.text items (Instruction i) refl h.text;
  }
  sorts_more (A_local n i) = record {
    params = none making.params_of_item s.content.params items (A_local n i) refl h.params;
    body = along items (A_local n i) s.open_if s.content.body None ((s.content.body ++ with_else s.open_if []) ++ i ∷ []) h.body (λ rest.
        without-else s.open_if s.content.body (A_local n i) rest (λ o. refl) ∙ one-more (s.content.body ++ with_else s.open_if []) i (making.body rest));
    branches = none making.branch_of_item s.content.branches items (A_local n i) refl h.branches;
    otherwise = none making.otherwise_of_item s.content.otherwise items (A_local n i) refl h.otherwise;
    values = none making.values_of_item s.content.values items (A_local n i) refl h.values;
    text = none making.text_of_item s.content.text items (A_local n i) refl h.text;
  }
  sorts_more (An_if x b at) = record {
    params = none making.params_of_item s.content.params items (An_if x b at) refl h.params;
    body = along items (An_if x b at) s.open_if s.content.body (Some (record { test = x; body = b; at = at })) (s.content.body ++ with_else s.open_if []) h.body (λ rest.
        without-else s.open_if s.content.body (An_if x b at) rest (λ o. refl));
    branches = none making.branch_of_item s.content.branches items (An_if x b at) refl h.branches;
    otherwise = none making.otherwise_of_item s.content.otherwise items (An_if x b at) refl h.otherwise;
    values = none making.values_of_item s.content.values items (An_if x b at) refl h.values;
    text = none making.text_of_item s.content.text items (An_if x b at) refl h.text;
  }
  sorts_more (An_else other) = record {
    params = none making.params_of_item s.content.params items (An_else other) refl h.params;
    body = along items (An_else other) s.open_if s.content.body None (s.content.body ++ with_else s.open_if other) h.body (λ rest.
        with-else s.open_if s.content.body other rest);
    branches = none making.branch_of_item s.content.branches items (An_else other) refl h.branches;
    otherwise = none making.otherwise_of_item s.content.otherwise items (An_else other) refl h.otherwise;
    values = none making.values_of_item s.content.values items (An_else other) refl h.values;
    text = none making.text_of_item s.content.text items (An_else other) refl h.text;
  }
  sorts_more (A_branch w) = record {
    params = none making.params_of_item s.content.params items (A_branch w) refl h.params;
    body = along items (A_branch w) s.open_if s.content.body None (s.content.body ++ with_else s.open_if []) h.body (λ rest.
        without-else s.open_if s.content.body (A_branch w) rest (λ o. refl));
    branches = more making.branch_of_item s.content.branches items (A_branch w) h.branches;
    otherwise = none making.otherwise_of_item s.content.otherwise items (A_branch w) refl h.otherwise;
    values = none making.values_of_item s.content.values items (A_branch w) refl h.values;
    text = none making.text_of_item s.content.text items (A_branch w) refl h.text;
  }
  sorts_more (An_otherwise b) = record {
    params = none making.params_of_item s.content.params items (An_otherwise b) refl h.params;
    body = along items (An_otherwise b) s.open_if s.content.body None (s.content.body ++ with_else s.open_if []) h.body (λ rest.
        without-else s.open_if s.content.body (An_otherwise b) rest (λ o. refl));
    branches = none making.branch_of_item s.content.branches items (An_otherwise b) refl h.branches;
    otherwise = more making.otherwise_of_item s.content.otherwise items (An_otherwise b) h.otherwise;
    values = none making.values_of_item s.content.values items (An_otherwise b) refl h.values;
    text = none making.text_of_item s.content.text items (An_otherwise b) refl h.text;
  }
  sorts_more (A_param v) = record {
    params = more making.params_of_item s.content.params items (A_param v) h.params;
    body = along items (A_param v) s.open_if s.content.body None (s.content.body ++ with_else s.open_if []) h.body (λ rest.
        without-else s.open_if s.content.body (A_param v) rest (λ o. refl));
    branches = none making.branch_of_item s.content.branches items (A_param v) refl h.branches;
    otherwise = none making.otherwise_of_item s.content.otherwise items (A_param v) refl h.otherwise;
    values = none making.values_of_item s.content.values items (A_param v) refl h.values;
    text = none making.text_of_item s.content.text items (A_param v) refl h.text;
  }
  sorts_more (A_value v) = record {
    params = none making.params_of_item s.content.params items (A_value v) refl h.params;
    body = along items (A_value v) s.open_if s.content.body None (s.content.body ++ with_else s.open_if []) h.body (λ rest.
        without-else s.open_if s.content.body (A_value v) rest (λ o. refl));
    branches = none making.branch_of_item s.content.branches items (A_value v) refl h.branches;
    otherwise = none making.otherwise_of_item s.content.otherwise items (A_value v) refl h.otherwise;
    values = more making.values_of_item s.content.values items (A_value v) h.values;
    text = none making.text_of_item s.content.text items (A_value v) refl h.text;
  }
  sorts_more (Text t) = record {
    params = none making.params_of_item s.content.params items (Text t) refl h.params;
    body = along items (Text t) s.open_if s.content.body None (s.content.body ++ with_else s.open_if []) h.body (λ rest.
        without-else s.open_if s.content.body (Text t) rest (λ o. refl));
    branches = none making.branch_of_item s.content.branches items (Text t) refl h.branches;
    otherwise = none making.otherwise_of_item s.content.otherwise items (Text t) refl h.otherwise;
    values = none making.values_of_item s.content.values items (Text t) refl h.values;
    text = more making.text_of_item s.content.text items (Text t) h.text;
  }
  sorts_more (A_part p) = record {
    params = none making.params_of_item s.content.params items (A_part p) refl h.params;
    body = along items (A_part p) s.open_if s.content.body None (s.content.body ++ with_else s.open_if []) h.body (λ rest.
        without-else s.open_if s.content.body (A_part p) rest (λ o. refl));
    branches = none making.branch_of_item s.content.branches items (A_part p) refl h.branches;
    otherwise = none making.otherwise_of_item s.content.otherwise items (A_part p) refl h.otherwise;
    values = none making.values_of_item s.content.values items (A_part p) refl h.values;
    text = none making.text_of_item s.content.text items (A_part p) refl h.text;
  }

-- nothing stands behind the last item
pub sorts_all : (items : List Item) (s : Sorter) → Sorts items s → Holds items (closed [] s).content
sorts_all items s h = record {
  params = h.params;
  body = sym (ends s.open_if s.content.body) ∙ sym (h.body []) ∙ ap making.body (append-nil items);
  branches = h.branches;
  otherwise = h.otherwise;
  values = h.values;
  text = h.text;
} where
  ends : (o : Option OpenIf) (done : List Instr) → done ++ making.body (open_item o ++ []) ≡ done ++ with_else o []
  ends None done = refl
  ends (Some i) done = refl

-- the same of the program's items
pub sorts_next : (items : List program.Item) (item : program.Item) (s next : Sorter) → Sorts (map item_of items) s → next ≡ taken (item_of item) s
    → Sorts (map item_of (items ++ item ∷ [])) next
sorts_next items item s next h e =
    subst (λ l. Sorts l next) (sym (map-append item_of items (item ∷ [])))
    (subst (λ t. Sorts (map item_of items ++ item_of item ∷ []) t) (sym e) (sorts_more (map item_of items) s h (item_of item)))

pub sorts_end : (items : List program.Item) (s : Sorter) (c : Content) → Sorts (map item_of items) s → c ≡ (closed [] s).content → Holds (map item_of items) c
sorts_end items s c h e = subst (λ d. Holds (map item_of items) d) (sym e) (sorts_all (map item_of items) s h)
