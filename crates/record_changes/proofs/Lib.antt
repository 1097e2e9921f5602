-- Written has what a written bit is to the state of a record, Owned how the bytes tell whether a user owns an area.
mod Written
mod Owned
