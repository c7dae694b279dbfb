use Rattle.px_causes.proofs.Common.{◌∙◌, declared_of}
use Rattle.px_causes.proofs.AtomTests.{places-lack, objects-lack, wanted-lack}
use Rattle.px_causes.proofs.naming.rest_lacks.Goals as goal

pub returns-in-Bindings : goal.returns-in-Bindings
returns-in-Bindings c = rw c.in-Bindings.is (c.lack_objects.ensures ∙ rw c.deref.ensures.value
    (objects-lack (declared_of c.args.so_far.now) c.in-Bindings.bindings.items))

pub returns-in-RoomEdits : goal.returns-in-RoomEdits
returns-in-RoomEdits c = rw c.in-RoomEdits.is (c.lack_places.ensures ∙ rw c.deref-in-RoomEdits.ensures.value
    (places-lack (declared_of c.args.so_far.now) c.in-RoomEdits.edits.items))

pub returns-in-Wanted : goal.returns-in-Wanted
returns-in-Wanted c = rw c.in-Wanted.is (c.lack_wanted.ensures ∙ rw c.deref-in-Wanted.ensures.value
    (wanted-lack (declared_of c.args.so_far.now) c.in-Wanted.kind c.in-Wanted.names.items))
