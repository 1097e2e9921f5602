mod Lay
