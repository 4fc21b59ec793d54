use Rattle.std.proofs.Common.{◌≡◌, ℕ, List, [], ◌∷◌, ◌++◌, decimal}
use Rattle.std.specs.List.{flat_map}
use Rattle.inspectors.specs.Lines.{Room, appended, spaced}
use Rattle.inspectors.specs.declared.lister.Lister.{Lister}
use Rattle.inspectors.proofs.Appends.{then_appended, then_room, front_room}
use Rattle.inspectors.proofs.lister.Lister.put_line.Goals as goal

-- four texts, one after another
module _ (s t u v : Lister) (k l m n : List ℕ) (room : Room s (k ++ (l ++ (m ++ n)))) where
  second : t ≡ appended s k → Room t (l ++ (m ++ n))
  second e = then_room s t k _ room e

  third : t ≡ appended s k → u ≡ appended t l → Room u (m ++ n)
  third e f = then_room t u l _ (second e) f

  fourth : t ≡ appended s k → u ≡ appended t l → v ≡ appended u m → Room v n
  fourth e f g = then_room u v m n (third e f) g

  whole : (w : Lister) → t ≡ appended s k → u ≡ appended t l → v ≡ appended u m → w ≡ appended v n → w ≡ appended s (k ++ (l ++ (m ++ n)))
  whole w e f g h =
      then_appended s t w k _ (front_room s k _ room) e
      (then_appended t u w l _ (front_room t l _ (second e)) f
      (then_appended u v w m n (front_room u m n (third e f)) g h))

pub put_spaced-requires : goal.put_spaced-requires
put_spaced-requires c =
    let s = c.args.self.now in let k = decimal c.args.code in let l = spaced c.args.address in let m = flat_map spaced c.args.words.now in
    front_room c.put_number.new.self l (m ++ (10 ∷ [])) (second s c.put_number.new.self s s k l m (10 ∷ []) c.requires c.put_number.ensures)

pub put_words-requires : goal.put_words-requires
put_words-requires c =
    let s = c.args.self.now in let k = decimal c.args.code in let l = spaced c.args.address in let m = flat_map spaced c.args.words.now in
    front_room c.put_spaced.new.self m (10 ∷ []) (third s c.put_number.new.self c.put_spaced.new.self s k l m (10 ∷ []) c.requires c.put_number.ensures c.put_spaced.ensures)

pub put-requires : goal.put-requires
put-requires c = fourth c.args.self.now _ _ _ (decimal c.args.code) (spaced c.args.address) (flat_map spaced c.args.words.now) (10 ∷ []) c.requires c.put_number.ensures c.put_spaced.ensures c.put_words.ensures

pub returns : goal.returns
returns c = whole c.args.self.now _ _ _ (decimal c.args.code) (spaced c.args.address) (flat_map spaced c.args.words.now) (10 ∷ []) c.requires _ c.put_number.ensures c.put_spaced.ensures c.put_words.ensures c.put.ensures
