-- The two specifications of a workload.
use Rattle.std.specs.Prelude.{codes, ◌++◌}
use Rattle.jm_model.specs.Words.{Text}

-- an iterator is used after its collection was changed
abbrev pub unsafe_iter : Text
unsafe_iter =
    codes "UnsafeIter(Collection c, Iterator i) {\n"
    ++ codes "  event create after(Collection c) returning(Iterator i) :\n"
    ++ codes "    call(Iterator Iterable+.iterator()) && target(c) {}\n"
    ++ codes "  event update after(Collection c) : call(* Collection+.add*(..)) && target(c) {}\n"
    ++ codes "  event next before(Iterator i) : call(* Iterator.next()) && target(i) {}\n"
    ++ codes "  ere : create next* update+ next\n"
    ++ codes "  @match { }\n"
    ++ codes "}\n"

-- `next` is called on an iterator that wasn't asked whether it has one
abbrev pub has_next : Text
has_next =
    codes "HasNext(Iterator i) {\n"
    ++ codes "  event hasnext after(Iterator i) : call(* Iterator.hasNext()) && target(i) {}\n"
    ++ codes "  event next before(Iterator i) : call(* Iterator.next()) && target(i) {}\n"
    ++ codes "  fsm :\n"
    ++ codes "    start [ next -> unsafe hasnext -> safe ]\n"
    ++ codes "    safe [ hasnext -> safe, next -> start ]\n"
    ++ codes "    unsafe [ next -> unsafe hasnext -> safe ]\n"
    ++ codes "    alias match = unsafe\n"
    ++ codes "  @match { }\n"
    ++ codes "}\n"
