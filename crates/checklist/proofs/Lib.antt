mod Divisions
